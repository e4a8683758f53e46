use Rattle.records.proofs.Encoding.{encoded_is_read, read_is_encoded}
use Rattle.records.proofs.reading.lawful_record.Goals as goal

pub returns-clause-what_is_encoded_is_read : goal.returns-clause-what_is_encoded_is_read
returns-clause-what_is_encoded_is_read c = encoded_is_read

pub returns-clause-what_is_read_is_encoded : goal.returns-clause-what_is_read_is_encoded
returns-clause-what_is_read_is_encoded c = read_is_encoded
