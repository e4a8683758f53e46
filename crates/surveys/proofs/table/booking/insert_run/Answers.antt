use Rattle.std.proofs.Common.{refl, arith}
use Rattle.surveys.proofs.Shift.{run_stands_between}
use Rattle.surveys.proofs.table.booking.insert_run.Goals as goal

pub returns : goal.returns
returns c = record {
  the_run_stands_between =
      run_stands_between c.args.book.now c.args.run.now c.copy_from_slice.new.self c.rotate_right.new.self _
      c.args.used c.args.at _ (omega arith) refl (omega arith) c.copy_from_slice.ensures.after
      refl c.rotate_right.ensures.after;
}
