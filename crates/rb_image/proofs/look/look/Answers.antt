use Rattle.std.proofs.Common.{◌≡◌, length, Some, refl, sym, subst, ap, ◌∙◌}
use Rattle.std.specs.Prelude.{slice_get}
use Rattle.std.specs.Option.{option_copied}
use Rattle.std.proofs.lemmas.Option.{slice_get_read}
use Rattle.rb_core.specs.TypedPrograms.{IsTyped}
use Rattle.rb_layout.specs.Flattening.{flat_layouts}
use Rattle.rb_layout.specs.Positions.{layout_of}
use Rattle.rb_image_text.specs.declared.fault.ImageFault.TheVariants.{Memory}
use Rattle.rb_coding.specs.FewFields.{HaveFewFields}
use Rattle.rb_coding.proofs.FewFields.{few_fields}
use Rattle.rb_image.specs.Parts.{at_of, ats_of, look as the_look}
use Rattle.rb_image.specs.Splits.{leaf_at}
use Rattle.rb_image.specs.Orders.{spots_of}
use Rattle.rb_image.proofs.LeafLemmas.{opens_at, readable_leaf}
use Rattle.rb_image.proofs.LookLemmas.{addresses_err, addresses_ok, given_err, given_memory, given_on, places_given, splits_err}
use Rattle.rb_image.proofs.look.look.Goals as goal

-- the layout stands among those of the program, and the leaf in the layout
pub order_of-requires : goal.order_of-requires
order_of-requires c =
    let p = c.args.agreed.now.covered.program in
    let typed : IsTyped p = rw c.covered.ensures.same at c.program.ensures.typed in
    let ls = c.layouts-layouts.result.now in
    let l = c.in-Some.ensures.lookup in
    let t = c.args.place.now.ty in
    let is_layout : layout_of (flat_layouts p) t ≡ Some c.in-Some.layout.now = ap (λ xs. slice_get xs t) (sym (c.layouts-layouts.ensures.same ∙ c.layouts-layouts.ensures.flat)) ∙ slice_get_read ls (length ls) t c.in-Some.layout.now refl l.3.0 l.1 in
    let is_leaf = sym c.get-2.ensures.value ∙ ap option_copied c.in-Some-get.is in
    record { readable = readable_leaf p typed c.layouts-layouts.ensures.agree t c.in-Some.layout.now is_layout c.in_ok-number.number c.in-Some-get.leaf.now is_leaf }

pub examine-requires : goal.examine-requires
examine-requires c =
    let p = c.args.agreed.now.covered.program in
    let typed : IsTyped p = rw c.covered.ensures.same at c.program.ensures.typed in
    let ls = c.layouts-layouts.result.now in
    let l = c.in-Some.ensures.lookup in
    let t = c.args.place.now.ty in
    let is_layout : layout_of (flat_layouts p) t ≡ Some c.in-Some.layout.now = ap (λ xs. slice_get xs t) (sym (c.layouts-layouts.ensures.same ∙ c.layouts-layouts.ensures.flat)) ∙ slice_get_read ls (length ls) t c.in-Some.layout.now refl l.3.0 l.1 in
    let is_leaf = sym c.get-2.ensures.value ∙ ap option_copied c.in-Some-get.is in
    record {
      placed = c.requires.placed;
      readable = readable_leaf p typed c.layouts-layouts.ensures.agree t c.in-Some.layout.now is_layout c.in_ok-number.number c.in-Some-get.leaf.now is_leaf;
      order = ap spots_of c.as_slice-order.ensures.value ∙ c.in_ok-spots.ensures;
    }

pub add_places-requires : goal.add_places-requires
add_places-requires c =
    let p = c.args.agreed.now.covered.program in
    let typed : IsTyped p = rw c.covered.ensures.same at c.program.ensures.typed in
    let types : c.as_slice-types.result.now ≡ p.types = c.as_slice-types.ensures ∙ ap (λ q. q.types) (c.program.ensures.same ∙ ap (λ k. k.program) c.covered.ensures.same) in
    record { placed = c.requires.placed; few = subst HaveFewFields (sym types) (few_fields p.types typed.numbered.types) }

pub returns-in_err-number : goal.returns-in_err-number
returns-in_err-number c =
    let p = c.args.agreed.now.covered.program in
    let layouts = c.args.agreed.now.layouts in
    let m = c.args.memory.now in
    let place = c.args.place.now in
    let ls = c.layouts-layouts.result.now in
    let l = c.in-Some.ensures.lookup in
    let is_layout : layout_of layouts place.ty ≡ Some c.in-Some.layout.now = ap (λ xs. slice_get xs place.ty) (sym c.layouts-layouts.ensures.same) ∙ slice_get_read ls (length ls) place.ty c.in-Some.layout.now refl l.3.0 l.1 in
    let due = the_look p.types layouts m (at_of place) in
    let fails = ap (leaf_at c.in-Some.layout.now.tree m) (sym c.as_slice-words.ensures.value) ∙ sym c.in_err-number.ensures in
    given_on _ due c.from_residual.result _ c.from_residual.ensures.0 c.from_residual.ensures.1
    (given_err _ due _ (splits_err p.types layouts m place.ty place.words.items c.in-Some.layout.now is_layout _ fails))

pub returns-in_err-spots : goal.returns-in_err-spots
returns-in_err-spots c =
    let due = the_look c.args.agreed.now.covered.program.types c.args.agreed.now.layouts c.args.memory.now (at_of c.args.place.now) in
    given_on _ due c.from_residual-in_err-spots.result Memory c.from_residual-in_err-spots.ensures.0 c.from_residual-in_err-spots.ensures.1 (given_memory _ due)

pub returns-in_err-addresses : goal.returns-in_err-addresses
returns-in_err-addresses c =
    let p = c.args.agreed.now.covered.program in
    let layouts = c.args.agreed.now.layouts in
    let m = c.args.memory.now in
    let place = c.args.place.now in
    let ls = c.layouts-layouts.result.now in
    let l = c.in-Some.ensures.lookup in
    let is_layout : layout_of layouts place.ty ≡ Some c.in-Some.layout.now = ap (λ xs. slice_get xs place.ty) (sym c.layouts-layouts.ensures.same) ∙ slice_get_read ls (length ls) place.ty c.in-Some.layout.now refl l.3.0 l.1 in
    let leads = ap (leaf_at c.in-Some.layout.now.tree m) (sym c.as_slice-words.ensures.value) ∙ sym c.in_ok-number.ensures in
    let is_leaf = sym c.get-2.ensures.value ∙ ap option_copied c.in-Some-get.is in
    let due = the_look p.types layouts m (at_of place) in
    given_on _ due c.from_residual-in_err-addresses.result _ c.from_residual-in_err-addresses.ensures.0 c.from_residual-in_err-addresses.ensures.1
    (addresses_err p.types layouts m place.ty place.words.items c.in-Some.layout.now is_layout c.in_ok-number.number leads c.in-Some-get.leaf.now is_leaf _ _ _ (rw c.as_slice-words.ensures.value at c.in_err-addresses.ensures))

pub returns-in_err-add_places : goal.returns-in_err-add_places
returns-in_err-add_places c =
    let due = the_look c.args.agreed.now.covered.program.types c.args.agreed.now.layouts c.args.memory.now (at_of c.args.place.now) in
    given_on _ due c.from_residual-in_err-add_places.result Memory c.from_residual-in_err-add_places.ensures.0 c.from_residual-in_err-add_places.ensures.1 (given_memory _ due)

pub returns : goal.returns
returns c =
    let p = c.args.agreed.now.covered.program in
    let layouts = c.args.agreed.now.layouts in
    let m = c.args.memory.now in
    let place = c.args.place.now in
    let typed : IsTyped p = rw c.covered.ensures.same at c.program.ensures.typed in
    let types : c.as_slice-types.result.now ≡ p.types = c.as_slice-types.ensures ∙ ap (λ q. q.types) (c.program.ensures.same ∙ ap (λ k. k.program) c.covered.ensures.same) in
    let ls = c.layouts-layouts.result.now in
    let l = c.in-Some.ensures.lookup in
    let is_layout : layout_of layouts place.ty ≡ Some c.in-Some.layout.now = ap (λ xs. slice_get xs place.ty) (sym c.layouts-layouts.ensures.same) ∙ slice_get_read ls (length ls) place.ty c.in-Some.layout.now refl l.3.0 l.1 in
    let is_flat : layout_of (flat_layouts p) place.ty ≡ Some c.in-Some.layout.now = ap (λ xs. slice_get xs place.ty) (sym c.layouts-layouts.ensures.flat) ∙ is_layout in
    let leads = ap (leaf_at c.in-Some.layout.now.tree m) (sym c.as_slice-words.ensures.value) ∙ sym c.in_ok-number.ensures in
    let is_leaf = sym c.get-2.ensures.value ∙ ap option_copied c.in-Some-get.is in
    let found = addresses_ok p.types layouts m place.ty place.words.items c.in-Some.layout.now is_layout c.in_ok-number.number leads c.in-Some-get.leaf.now is_leaf (λ xs. xs.items) c.in_ok-addresses.addresses
    (rw c.as_slice-words.ensures.value at c.in_ok-addresses.ensures) in
    places_given p.types layouts m place.ty place.words.items c.in-Some.layout.now is_layout c.in_ok-number.number leads c.in-Some-get.leaf.now is_leaf (λ xs. ats_of xs.items) c.add_places.new.places
    c.as_slice-types.result.now ls c.as_slice-words.result.now (spots_of c.as_slice-order.result.now) c.in_ok-addresses.addresses.items c.as_slice.result.now (ats_of c.new-places.result.items)
    found types c.layouts-layouts.ensures.same c.as_slice-words.ensures.value (ap spots_of c.as_slice-order.ensures.value ∙ c.in_ok-spots.ensures) c.as_slice.ensures.value (ap ats_of c.new-places.ensures.items)
    (opens_at p typed c.layouts-layouts.ensures.agree place.ty c.in-Some.layout.now is_flat c.in_ok-number.number c.in-Some-get.leaf.now is_leaf) c.in_ok-add_places.ensures
