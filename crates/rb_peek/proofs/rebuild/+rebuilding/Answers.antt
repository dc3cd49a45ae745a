use Rattle.std.proofs.Common.{◌≡◌, ◌<◌, length, List, ℕ, refl, ap, ◌∙◌, arith}
use Rattle.std.proofs.lemmas.Option.{slice_get_read}
use Rattle.rb_layout.specs.Opens.{opens_at}
use Rattle.rb_layout.specs.Positions.{open_positions}
use Rattle.rb_image.proofs.LookLemmas.{given_on}
use Rattle.rb_peek.specs.Rebuilds.{fields_at, rebuilding_within, words_along}
use Rattle.rb_peek.specs.declared.pack.FieldWords.{FieldWords}
use Rattle.rb_peek.specs.inner.Standing.{position_shown}
use Rattle.rb_peek.proofs.RebuildLemmas.{along_err, along_given, field_added, field_err, fields_done, fields_err, leaf_err, rebuilt}
use Rattle.rb_peek.proofs.rebuild.+rebuilding.Goals as goal

pub rebuild_within-returns-in_err-leaf : goal.rebuild_within-returns-in_err-leaf
rebuild_within-returns-in_err-leaf t c =
    let types = c.args.agreed.now.covered.program.types in
    let layouts = c.args.agreed.now.layouts in
    let m = c.args.image.now.blocks in
    let x = position_shown c.args.view.now in
    let some : 0 < c.args.depth = omega (arith, c.if-depth-eq0.false) in
    given_on (λ (ws : List ℕ). ws) (rebuilding_within types layouts m c.args.depth c.args.ty x) c.from_residual.result _ c.from_residual.ensures.0 c.from_residual.ensures.1
    (leaf_err types layouts m x c.args.ty c.args.depth some _ c.in_err-leaf.ensures)

pub rebuild_within-returns-in_err-fields : goal.rebuild_within-returns-in_err-fields
rebuild_within-returns-in_err-fields t c =
    let types = c.args.agreed.now.covered.program.types in
    let layouts = c.args.agreed.now.layouts in
    let m = c.args.image.now.blocks in
    let x = position_shown c.args.view.now in
    let some : 0 < c.args.depth = omega (arith, c.if-depth-eq0.false) in
    let opens : opens_at c.as_slice.result.now ≡ open_positions types c.in_ok-leaf.leaf.now.prov = ap opens_at c.as_slice.ensures ∙ c.in_ok-opens.ensures in
    given_on (λ (ws : List ℕ). ws) (rebuilding_within types layouts m c.args.depth c.args.ty x) c.from_residual-in_err-fields.result _ c.from_residual-in_err-fields.ensures.0 c.from_residual-in_err-fields.ensures.1
    (fields_err types layouts m x c.args.ty c.args.depth some c.in_ok-leaf.leaf c.in_ok-leaf.ensures (opens_at c.as_slice.result.now) opens _ c.in_err-fields.ensures)

pub rebuild_within-returns : goal.rebuild_within-returns
rebuild_within-returns t c =
    let types = c.args.agreed.now.covered.program.types in
    let layouts = c.args.agreed.now.layouts in
    let m = c.args.image.now.blocks in
    let x = position_shown c.args.view.now in
    let some : 0 < c.args.depth = omega (arith, c.if-depth-eq0.false) in
    let opens : opens_at c.as_slice.result.now ≡ open_positions types c.in_ok-leaf.leaf.now.prov = ap opens_at c.as_slice.ensures ∙ c.in_ok-opens.ensures in
    rebuilt types layouts m x c.args.ty c.args.depth some c.in_ok-leaf.leaf c.in_ok-leaf.ensures (opens_at c.as_slice.result.now) opens c.in_ok-fields.fields c.in_ok-words.words c.in_ok-fields.ensures
    (rw (c.as_slice-2.ensures, c.as_slice-3.ensures) at c.in_ok-words.ensures)

pub words_along-words_at-requires : goal.words_along-words_at-requires
words_along-words_at-requires t c = (omega (arith, c.decreases), (c.requires.placed, c.view.ensures.shown c.args.image.now.blocks c.in_ok-end.ensures.read))

pub words_along-returns-in_err-end : goal.words_along-returns-in_err-end
words_along-returns-in_err-end t c =
    let types = c.args.agreed.now.covered.program.types in
    let layouts = c.args.agreed.now.layouts in
    let m = c.args.image.now.blocks in
    let x = position_shown c.args.view.now in
    let go = rebuilding_within types layouts m c.args.depth in
    given_on (λ (ws : List ℕ). ws) (words_along types layouts m go x c.args.path.now) c.from_residual.result _ c.from_residual.ensures.0 c.from_residual.ensures.1
    (along_err types layouts m x go c.args.path.now _ c.in_err-end.ensures.come)

pub words_along-returns : goal.words_along-returns
words_along-returns t c =
    let types = c.args.agreed.now.covered.program.types in
    let layouts = c.args.agreed.now.layouts in
    let m = c.args.image.now.blocks in
    let x = position_shown c.args.view.now in
    let go = rebuilding_within types layouts m c.args.depth in
    along_given types layouts m x go c.args.path.now c.in_ok-end.end (position_shown c.view.result) c.words_at.result c.in_ok-end.ensures.come c.view.ensures.same c.words_at.ensures

pub fields_at-returns-in_err-words : goal.fields_at-returns-in_err-words
fields_at-returns-in_err-words t c =
    let types = c.args.agreed.now.covered.program.types in
    let layouts = c.args.agreed.now.layouts in
    let m = c.args.image.now.blocks in
    let x = position_shown c.args.view.now in
    let go = rebuilding_within types layouts m c.args.depth in
    let opens = c.args.opens.now in
    let k = c.loop-open.open-index in
    let o = c.open-item.result in
    let is = slice_get_read opens (length opens) k o refl c.loop-open-test.true c.open-item.is in
    given_on (λ (fs : List FieldWords). fs) (fields_at types layouts m go x (opens_at opens)) c.from_residual.result _ c.from_residual.ensures.0 c.from_residual.ensures.1
    (field_err types layouts m x go (fields_at types layouts m go x (opens_at opens)) c.loop-open.fields opens k c.loop-open.invariant o is _ (rw c.as_slice-path.ensures at c.in_err-words.ensures))

pub fields_at-loop-open-preserved : goal.fields_at-loop-open-preserved
fields_at-loop-open-preserved t c =
    let types = c.args.agreed.now.covered.program.types in
    let layouts = c.args.agreed.now.layouts in
    let m = c.args.image.now.blocks in
    let x = position_shown c.args.view.now in
    let go = rebuilding_within types layouts m c.args.depth in
    let opens = c.args.opens.now in
    let k = c.loop-open.open-index in
    let o = c.open-item.result in
    let is = slice_get_read opens (length opens) k o refl c.loop-open-test.true c.open-item.is in
    field_added types layouts m x go (fields_at types layouts m go x (opens_at opens)) c.loop-open.fields opens k c.loop-open.invariant o is c.in_ok-words.words c.add_field.new.fields
    (rw c.as_slice-path.ensures at c.in_ok-words.ensures) (rw c.as_slice-path.ensures at c.in_ok-add_field.ensures)

pub fields_at-returns : goal.fields_at-returns
fields_at-returns t c =
    let types = c.args.agreed.now.covered.program.types in
    let layouts = c.args.agreed.now.layouts in
    let m = c.args.image.now.blocks in
    let x = position_shown c.args.view.now in
    let go = rebuilding_within types layouts m c.args.depth in
    let opens = c.args.opens.now in
    fields_done types layouts m x go (fields_at types layouts m go x (opens_at opens)) c.loop-open.fields opens c.loop-open.open-index c.loop-open.invariant c.loop-open-test.false
