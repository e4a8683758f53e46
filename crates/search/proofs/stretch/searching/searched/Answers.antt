use Rattle.search.proofs.Vouched.{is_first, exactly_one}
use Rattle.search.proofs.stretch.searching.searched.Goals as goal

pub returns-clause-its_configuration_is_the_first_long_enough : goal.returns-clause-its_configuration_is_the_first_long_enough
returns-clause-its_configuration_is_the_first_long_enough g c = is_first

pub returns-clause-exactly_one_gap_holds_the_offset : goal.returns-clause-exactly_one_gap_holds_the_offset
returns-clause-exactly_one_gap_holds_the_offset g c = exactly_one
