use Rattle.std.proofs.Common.{List, length, ◌||◌, sym, ap, ◌∙◌, arith}
use Rattle.std.proofs.Math.Bool.{or-false}
use Rattle.std.proofs.lemmas.List.{drop_all}
use Rattle.rb_core.specs.declared.pattern.Pat.{Pat}
use Rattle.rb_matrix.specs.declared.matrix.Head.{Head}
use Rattle.rb_matrix.specs.Heads.{any_begins, column_begins}
use Rattle.rb_matrix.proofs.Gathering.{begun-more, few-more}
use Rattle.rb_matrix.proofs.rows.heads_in.Goals as goal

pub loop-row-preserved : goal.loop-row-preserved
loop-row-preserved c =
    let rows = c.args.rows.now in let i = c.loop-row.row-index in let r = c.row-item.result in let old = c.loop-row.heads.items in let new = c.add_head.new.heads.items in
    record {
      same = begun-more rows i r c.loop-row-test.true c.row-item.is c.head.result c.head.ensures old new c.in_ok-add_head.ensures.heads c.loop-row.invariant.same;
      few = few-more rows i r c.loop-row-test.true c.row-item.is c.head.result c.head.ensures old new c.in_ok-add_head.ensures.few c.loop-row.invariant.few;
      known = c.add_head.ensures.known;
    }

pub returns-clause-heads : goal.returns-clause-heads
returns-clause-heads c = λ l.
    ap (λ (hs : List Head). any_begins hs l) c.from_vec.ensures ∙ sym (or-false (any_begins c.loop-row.heads.items l))
    ∙ ap (λ (rs : List (List Pat)). any_begins c.loop-row.heads.items l || column_begins rs l) (sym (drop_all c.loop-row.row-index c.args.rows.now c.loop-row-test.false))
    ∙ c.loop-row.invariant.same l

pub returns-clause-few : goal.returns-clause-few
returns-clause-few c = let same = ap (λ (hs : List Head). length hs) c.from_vec.ensures in let few = c.loop-row.invariant.few in omega (arith, same, few)
