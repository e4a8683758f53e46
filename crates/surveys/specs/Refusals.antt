-- The refusals of the calls: their numbers, and the byte that goes with one.
use Rattle.std.specs.Prelude.{ℕ, None, Option}
use Rattle.sheets.specs.Faults.{byte_of as sheet_byte, number_of as sheet_number}
use Rattle.surveys.specs.declared.refusal.giving_back.GiveBackRefusal.{GiveBackRefusal}
use Rattle.surveys.specs.declared.refusal.giving_back.GiveBackRefusal.TheVariants as give_back
use Rattle.surveys.specs.declared.refusal.issuing.IssueRefusal.{IssueRefusal}
use Rattle.surveys.specs.declared.refusal.issuing.IssueRefusal.TheVariants.{NotWaiting}
use Rattle.surveys.specs.declared.refusal.recalling.RecallRefusal.{RecallRefusal}
use Rattle.surveys.specs.declared.refusal.recalling.RecallRefusal.TheVariants.{NotSettled}
use Rattle.surveys.specs.declared.refusal.settling.SettleRefusal.{SettleRefusal}
use Rattle.surveys.specs.declared.refusal.settling.SettleRefusal.TheVariants as settle
use Rattle.surveys.specs.declared.refusal.terms.TermsRefusal.{TermsRefusal}
use Rattle.surveys.specs.declared.refusal.terms.TermsRefusal.TheVariants.{NotAllWaiting, Threshold, BlockLength}
use Rattle.surveys.specs.declared.refusal.working.WorkRefusal.{WorkRefusal}
use Rattle.surveys.specs.declared.refusal.working.WorkRefusal.TheVariants as work

-- terms: 6 some block is not waiting; 3 the threshold is above the modulus; 5 the block length is not from 1 to 65,536 or makes over 256 blocks
abbrev pub terms_number : TermsRefusal → ℕ
terms_number NotAllWaiting = 6
terms_number Threshold = 3
terms_number BlockLength = 5

-- issue: 10 the block is not waiting, or there is no such block
abbrev pub issue_number : IssueRefusal → ℕ
issue_number NotWaiting = 10

-- give back: 11 the ticket is of another survey number, or its block is not out here
abbrev pub give_back_number : GiveBackRefusal → ℕ
give_back_number give_back.NotOut = 11

-- work: 11 as above; 12 the book would pass 512 indices
abbrev pub work_number : WorkRefusal → ℕ
work_number work.NotOut = 11
work_number work.BookFull = 12

-- settle: 11 and 12 as above; between them 19 to 28, why the sheet does not pass, with the byte of the record at fault
abbrev pub settle_number : SettleRefusal → ℕ
settle_number settle.NotOut = 11
settle_number (settle.Sheet refusal) = sheet_number refusal
settle_number settle.BookFull = 12

abbrev pub settle_byte : SettleRefusal → Option ℕ
settle_byte settle.NotOut = None
settle_byte (settle.Sheet refusal) = sheet_byte refusal
settle_byte settle.BookFull = None

-- recall: 14 the block is not settled, or there is no such block
abbrev pub recall_number : RecallRefusal → ℕ
recall_number NotSettled = 14
