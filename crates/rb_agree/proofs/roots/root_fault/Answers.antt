use Rattle.std.proofs.Common.{◌≡◌, subst, arith, sym, Some, get_or, List}
use Rattle.std.proofs.lemmas.Option.{slice_get-get_or}
use Rattle.rb_layout.specs.declared.layout.FlatWord.{FlatWord}
use Rattle.std.specs.Prelude.{slice_get}
use Rattle.rb_layout.specs.A2.{widths_of}
use Rattle.rb_agree.proofs.Widths.{width-found, width-next, same-widths, up-to}
use Rattle.rb_agree.proofs.roots.root_fault.Goals as goal

pub loop-i-preserved : goal.loop-i-preserved
loop-i-preserved c =
    up-to (λ k. slice_get (widths_of c.as_slice-root.result.now) k ≡ slice_get c.args.shape.now k) c.loop-i.i
    (width-next c.as_slice-root.result.now c.args.shape.now c.loop-i.i c.index-root-i.result c.loop-i-test.true (omega arith) c.if-width-wanted.false) c.loop-i.invariant

pub returns : goal.returns
returns c =
    subst (λ ws. widths_of ws ≡ c.args.shape.now) c.as_slice-root.ensures
    (same-widths c.as_slice-root.result.now c.args.shape.now c.loop-i.i (omega arith) (omega arith) c.loop-i.invariant)

pub returns-then-width-wanted : goal.returns-then-width-wanted
returns-then-width-wanted c =
    let root = c.as_slice-root.result.now in
    let n = c.in_ok-number_of.ensures in (
      subst (λ k. slice_get (widths_of c.args.leaf.now.root) k ≡ Some (get_or root c.loop-i.i c.index-root-i.result).width) (sym n)
          (subst (λ (ws : List FlatWord). slice_get (widths_of ws) c.loop-i.i ≡ Some (get_or root c.loop-i.i c.index-root-i.result).width) c.as_slice-root.ensures
          (width-found root c.loop-i.i c.index-root-i.result c.loop-i-test.true)),
      subst (λ k. slice_get c.args.shape.now k ≡ Some (get_or c.args.shape.now c.loop-i.i 0)) (sym n) (slice_get-get_or c.args.shape.now c.loop-i.i 0 (omega arith)),
      c.if-width-wanted.true,
    )
