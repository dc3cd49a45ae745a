use Rattle.std.proofs.Common.{◌+◌, ◌∷◌, [], ◌++◌, length, drop, refl, ap, sym, ◌∙◌, arith, append_assoc, append-nil}
use Rattle.std.proofs.lemmas.Option.{slice_get_read, slice_get-get_or}
use Rattle.rb_core.specs.declared.types.Ty.TheVariants.{Int}
use Rattle.rb_layout.specs.Positions.{opens_of}
use Rattle.rb_image.specs.Parts.{ats_of}
use Rattle.rb_image.specs.inner.Opening.{places_below}
use Rattle.rb_image.proofs.BelowLemmas.{fields_end, fields_from, fields_more, fields_untyped}
use Rattle.rb_image.proofs.below.+opening.Goals as goal

pub add_fields-returns-then-i-tys : goal.add_fields-returns-then-i-tys
add_fields-returns-then-i-tys t c =
    let before = ats_of c.loop-i.places.items in
    sym (c.loop-i.invariant ∙ ap (λ ys. before ++ ys) (fields_untyped c.args.examined.now c.args.pats.now c.args.tys.now c.args.path.now c.loop-i.i c.if-i-tys.true) ∙ append-nil before)

pub add_fields-returns : goal.add_fields-returns
add_fields-returns t c =
    let before = ats_of c.loop-i.places.items in
    sym (c.loop-i.invariant ∙ ap (λ ys. before ++ ys) (fields_end c.args.examined.now c.args.pats.now c.args.tys.now c.args.path.now c.loop-i.i c.loop-i-test.false) ∙ append-nil before)

pub add_fields-path_below-requires : goal.add_fields-path_below-requires
add_fields-path_below-requires t c = let few = c.requires.types in omega (arith, c.if-i-tys.false, few)

pub add_fields-loop-i-preserved : goal.add_fields-loop-i-preserved
add_fields-loop-i-preserved t c =
    let x = c.args.examined.now in
    let ps = c.args.pats.now in
    let ts = c.args.tys.now in
    let path = c.args.path.now in
    let i = c.loop-i.i in
    let before = ats_of c.loop-i.places.items in
    let rest = fields_from x (drop (i + 1) ps) (drop (i + 1) ts) path (i + 1) in
    let is_p = slice_get_read ps (length ps) i c.index-pats-i.result refl c.loop-i-test.true c.index-pats-i.is in
    let is_ty = slice_get-get_or ts i (Int 0) c.if-i-tys.false in
    c.loop-i.invariant ∙ ap (λ ys. before ++ ys) (fields_more x ps ts path i c.index-pats-i.result _ is_p is_ty)
    ∙ sym (append_assoc before (places_below x (path ++ i ∷ []) (opens_of x.types.now c.index-pats-i.result _)) rest)
    ∙ ap (λ zs. zs ++ rest) (sym (rw (c.as_slice.ensures, c.in_ok-field.ensures) at c.in_ok-add_places.ensures))
