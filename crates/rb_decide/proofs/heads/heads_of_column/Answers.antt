use Rattle.std.proofs.Common.{◌+◌, ◌++◌, drop, sym, ap, ◌∙◌}
use Rattle.std.proofs.lemmas.List.{append-nil}
use Rattle.rb_matrix.specs.Heads.{any_begins, row_head}
use Rattle.rb_matrix.specs.Known.{with_head}
use Rattle.rb_decide.specs.ClauseMatrices.{column_heads}
use Rattle.rb_decide.proofs.Moving.{split-at-item, drop-past}
use Rattle.rb_decide.proofs.HeadOrder.{beyond, beyond-none, one-more}
use Rattle.rb_decide.proofs.heads.heads_of_column.Goals as goal

pub loop-row-init : goal.loop-row-init
loop-row-init c = record {
  known = λ l. c.new-known.ensures l ∙ sym (ap (λ hs. any_begins hs l) c.new-heads.ensures.items);
  order = ap (λ l. l ++ beyond l (column_heads c.args.rows.now)) c.new-heads.ensures.items ∙ beyond-none (column_heads c.args.rows.now);
}

pub loop-row-preserved : goal.loop-row-preserved
loop-row-preserved c =
    let cut = split-at-item c.args.rows.now c.loop-row.row-index c.row-item.result c.loop-row-test.true c.row-item.is in
    record {
      known = c.in_ok-add_head.ensures.known;
      order =
          ap (λ l. l ++ beyond l (column_heads (drop (c.loop-row.row-index + 1) c.args.rows.now)))
          (c.in_ok-add_head.ensures.order ∙ ap (with_head c.loop-row.heads.items) (c.head_of_row.ensures ∙ ap row_head c.as_slice.ensures))
          ∙ one-more c.loop-row.heads.items (row_head c.row-item.result.pats) (column_heads (drop (c.loop-row.row-index + 1) c.args.rows.now))
          ∙ ap (λ l. c.loop-row.heads.items ++ beyond c.loop-row.heads.items (column_heads l)) (sym cut)
          ∙ c.loop-row.invariant.order;
    }

pub returns : goal.returns
returns c =
    let none = drop-past c.args.rows.now c.loop-row.row-index c.loop-row-test.false in
    sym (append-nil c.loop-row.heads.items)
    ∙ ap (λ l. c.loop-row.heads.items ++ beyond c.loop-row.heads.items (column_heads l)) (sym none)
    ∙ c.loop-row.invariant.order
