use Rattle.std.proofs.Common.{ltb, ap, length, ◌∙◌, rules}
use Rattle.std.proofs.lemmas.List.Sorted.{IsPartitionPoint-from_clause, IsPartitionedBy-ltb}
use Rattle.surveys.specs.Books.{below, rises}
use Rattle.surveys.proofs.Counted.{below_end_at_the_point, rises_in_order}
use Rattle.surveys.proofs.table.Table.count_below.Goals as goal

pub returns : goal.returns
returns c =
    let book = c.book.result.now in
    let is = c.book.ensures.are_the_booked_indices in
    let parted = IsPartitionedBy-ltb (λ k. k) book c.args.index (rises_in_order book (ap rises is ∙ c.args.self.now.book_rises)) in
    let point = IsPartitionPoint-from_clause (λ k. ltb k c.args.index) book _ c.partition_point.ensures.partitioned parted (λ a r q k. search rules) in
    record {
      are_those_below =
          below_end_at_the_point c.args.index book c.partition_point.result c.partition_point.ensures.bound point
          ∙ ap (λ ks. length (below c.args.index ks)) is;
    }
