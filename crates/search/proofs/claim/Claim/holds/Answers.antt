use Rattle.search.proofs.Tested.{tells_the_test}
use Rattle.search.proofs.Vouched.{least_distance, vouch_exactly}
use Rattle.search.proofs.claim.Claim.holds.Goals as goal

pub returns : goal.returns
returns c =
    record {
      true_exactly_when_they_vouch = c.is_met.ensures.true_exactly_when_they_vouch;
      is_the_test_of_the_numbers = tells_the_test _ _ _ _ _ _ _ c.is_met.ensures.true_exactly_when_they_vouch;
      vouching_numbers_give_the_least_distance = least_distance;
      numbers_vouch_exactly_when_no_point_is_close = vouch_exactly;
    }
