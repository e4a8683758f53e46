-- A survey as its keeper sees it, and the answers of its calls as the ledger has them.
use Rattle.std.specs.Prelude.{None, Ok, Err, Result}
use Rattle.curves.specs.Meaning.{Meaning}
use Rattle.surveys.specs.Keeper.{View}
use Rattle.surveys.specs.Ledger.{Answer, accepted, handed, refused, returned}
use Rattle.surveys.specs.Refusals.{terms_number, issue_number, give_back_number, work_number, settle_number, settle_byte, recall_number}
use Rattle.surveys.specs.declared.refusal.giving_back.GiveBackRefusal.{GiveBackRefusal}
use Rattle.surveys.specs.declared.refusal.issuing.IssueRefusal.{IssueRefusal}
use Rattle.surveys.specs.declared.refusal.recalling.RecallRefusal.{RecallRefusal}
use Rattle.surveys.specs.declared.refusal.settling.SettleRefusal.{SettleRefusal}
use Rattle.surveys.specs.declared.refusal.terms.TermsRefusal.{TermsRefusal}
use Rattle.surveys.specs.declared.refusal.working.WorkRefusal.{WorkRefusal}
use Rattle.surveys.specs.declared.survey.Survey.{Survey}
use Rattle.surveys.specs.declared.ticket.Ticket.{Ticket}

abbrev pub view : {C : Type 0} → (C → Meaning) → Survey C → View
view meaning s = record { meaning = meaning s.curve; number = s.number; table = s.table }

abbrev pub terms_answer : Result (Unit {0}) TermsRefusal → Answer
terms_answer (Ok u) = accepted
terms_answer (Err refusal) = refused (terms_number refusal)

abbrev pub issue_answer : Result Ticket IssueRefusal → Answer
issue_answer (Ok ticket) = handed ticket
issue_answer (Err refusal) = refused (issue_number refusal)

abbrev pub give_back_answer : Result (Unit {0}) (GiveBackRefusal × Ticket) → Answer
give_back_answer (Ok u) = accepted
give_back_answer (Err x) = returned (give_back_number x.0) None x.1

abbrev pub work_answer : Result (Unit {0}) (WorkRefusal × Ticket) → Answer
work_answer (Ok u) = accepted
work_answer (Err x) = returned (work_number x.0) None x.1

abbrev pub settle_answer : Result (Unit {0}) (SettleRefusal × Ticket) → Answer
settle_answer (Ok u) = accepted
settle_answer (Err x) = returned (settle_number x.0) (settle_byte x.0) x.1

abbrev pub recall_answer : Result (Unit {0}) RecallRefusal → Answer
recall_answer (Ok u) = accepted
recall_answer (Err refusal) = refused (recall_number refusal)
