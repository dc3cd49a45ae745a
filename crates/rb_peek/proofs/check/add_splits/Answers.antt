use Rattle.std.proofs.Common.{◌≡◌, ◌++◌, Some, None, sym, subst, ap, ◌∙◌}
use Rattle.std.specs.Option.{option_copied}
use Rattle.std.proofs.lemmas.Result.{IfOk-equal}
use Rattle.rb_layout.specs.Positions.{layout_of}
use Rattle.rb_image_text.specs.Places.{AreInPlace}
use Rattle.rb_peek.specs.Asked.{asked_by}
use Rattle.rb_peek.specs.Walks.{seen_of}
use Rattle.rb_peek.proofs.CheckLemmas.{none_asked, some_asked}
use Rattle.rb_peek.proofs.check.add_splits.Goals as goal

pub add_asked-requires : goal.add_asked-requires
add_asked-requires c = record { placed = subst AreInPlace (sym c.as_slice.ensures) c.requires.placed }

pub returns-in_default : goal.returns-in_default
returns-in_default c =
    let s = seen_of c.args.passed.now in
    let none : layout_of c.args.agreed.now.layouts s.ty ≡ None = ap (λ ls. layout_of ls s.ty) (sym c.layouts.ensures.same) ∙ sym c.layout_of.ensures ∙ ap option_copied c.in_default.is in
    none_asked c.args.agreed.now.layouts c.args.image.now.blocks s c.args.found.now.items none

pub returns : goal.returns
returns c =
    let m = c.args.image.now.blocks in
    let layouts = c.args.agreed.now.layouts in
    let old = c.args.found.now.items in
    let layout = c.in-Some.layout.now in
    let s = seen_of c.args.passed.now in
    let some : layout_of layouts s.ty ≡ Some layout = ap (λ ls. layout_of ls s.ty) (sym c.layouts.ensures.same) ∙ sym c.layout_of.ensures ∙ ap option_copied c.in-Some.is in
    IfOk-equal c.add_asked.result _ _ _ c.add_asked.ensures
    (ap (λ xs. old ++ asked_by layout.tree xs c.as_slice-words.result.now) c.as_slice.ensures
    ∙ ap (λ ws. old ++ asked_by layout.tree m ws) c.as_slice-words.ensures.value ∙ ap (λ ks. old ++ ks) (some_asked layouts m s layout some))
