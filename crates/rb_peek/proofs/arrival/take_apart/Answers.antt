use Rattle.std.proofs.Common.{◌≡◌, length, [], Some, refl, sym, ap, ◌∙◌, Ok, List, ℕ}
use Rattle.std.specs.Prelude.{slice_get}
use Rattle.std.specs.declared.alloc.Global.{Global}
use Rattle.std.specs.declared.vec.Vec.{Vec}
use Rattle.std.specs.Option.{option_copied}
use Rattle.std.proofs.lemmas.Option.{slice_get_read}
use Rattle.rb_layout.specs.Positions.{layout_of}
use Rattle.rb_image.specs.Parts.{addresses_of}
use Rattle.rb_image.specs.Splits.{leaf_at}
use Rattle.rb_image.proofs.LookLemmas.{given_ok, given_on}
use Rattle.rb_peek.specs.Views.{from_root, taken_apart}
use Rattle.rb_peek.specs.inner.Standing.{come_to}
use Rattle.rb_peek.proofs.GivenLemmas.{first_err}
use Rattle.rb_peek.proofs.ViewLemmas.{leads_on}
use Rattle.rb_peek.proofs.WayLemmas.{then_given}
use Rattle.rb_peek.proofs.arrival.take_apart.Goals as goal

pub order_of-requires : goal.order_of-requires
order_of-requires c =
    let layout = c.in-Some.layout.now in
    let ls = c.layouts.result.now in
    let l = c.in-Some.ensures.lookup in
    let t = c.args.ty in
    let is : layout_of c.args.agreed.now.layouts t ≡ Some layout = ap (λ xs. slice_get xs t) (sym c.layouts.ensures.same) ∙ slice_get_read ls (length ls) t layout refl l.3.0 l.1 in
    let at = sym c.get-2.ensures.value ∙ ap option_copied c.in-Some-get.is in
    record { readable = (c.tell_orderly.ensures.tidy t layout is).readable c.in_ok-number.number c.in-Some-get.leaf.now at }

pub examine-requires-clause-readable : goal.examine-requires-clause-readable
examine-requires-clause-readable c =
    let layout = c.in-Some.layout.now in
    let ls = c.layouts.result.now in
    let l = c.in-Some.ensures.lookup in
    let t = c.args.ty in
    let is : layout_of c.args.agreed.now.layouts t ≡ Some layout = ap (λ xs. slice_get xs t) (sym c.layouts.ensures.same) ∙ slice_get_read ls (length ls) t layout refl l.3.0 l.1 in
    let at = sym c.get-2.ensures.value ∙ ap option_copied c.in-Some-get.is in
    (c.tell_orderly.ensures.tidy t layout is).readable c.in_ok-number.number c.in-Some-get.leaf.now at

pub returns-in_err-_addresses-clause-come : goal.returns-in_err-_addresses-clause-come
returns-in_err-_addresses-clause-come c =
    let layouts = c.args.agreed.now.layouts in
    let layout = c.in-Some.layout.now in
    let ls = c.layouts.result.now in
    let l = c.in-Some.ensures.lookup in
    let t = c.args.ty in
    let ws = c.args.words.items in
    let leaf = c.in-Some-get.leaf.now in
    let is : layout_of layouts t ≡ Some layout = ap (λ xs. slice_get xs t) (sym c.layouts.ensures.same) ∙ slice_get_read ls (length ls) t layout refl l.3.0 l.1 in
    let at = sym c.get-2.ensures.value ∙ ap option_copied c.in-Some-get.is in
    let leads = ap (leaf_at layout.tree []) (sym c.as_slice.ensures.value) ∙ sym c.in_ok-number.ensures in
    given_on come_to (taken_apart layouts t ws) c.from_residual-in_err-_addresses.result _ c.from_residual-in_err-_addresses.ensures.0 c.from_residual-in_err-_addresses.ensures.1
    (first_err (λ (found : Vec ℕ Global). found.items) come_to (taken_apart layouts t ws) (addresses_of [] leaf ws) (λ (none : List ℕ). Ok (from_root t ws leaf)) _
    (leads_on layouts t ws layout is c.in_ok-number.number leaf leads at) (rw c.as_slice-2.ensures.value at c.in_err-_addresses.ensures))

pub returns-clause-come : goal.returns-clause-come
returns-clause-come c =
    let layouts = c.args.agreed.now.layouts in
    let layout = c.in-Some.layout.now in
    let ls = c.layouts.result.now in
    let l = c.in-Some.ensures.lookup in
    let t = c.args.ty in
    let ws = c.args.words.items in
    let leaf = c.in-Some-get.leaf.now in
    let is : layout_of layouts t ≡ Some layout = ap (λ xs. slice_get xs t) (sym c.layouts.ensures.same) ∙ slice_get_read ls (length ls) t layout refl l.3.0 l.1 in
    let at = sym c.get-2.ensures.value ∙ ap option_copied c.in-Some-get.is in
    let leads = ap (leaf_at layout.tree []) (sym c.as_slice.ensures.value) ∙ sym c.in_ok-number.ensures in
    given_ok come_to (taken_apart layouts t ws) (from_root t ws leaf) c.in_ok-root.root
    (leads_on layouts t ws layout is c.in_ok-number.number leaf leads at
    ∙ then_given (λ (found : Vec ℕ Global). found.items) come_to (addresses_of [] leaf ws) (λ (none : List ℕ). Ok (from_root t ws leaf)) c.in_ok-_addresses._addresses (rw c.as_slice-2.ensures.value at c.in_ok-_addresses.ensures))
    c.in_ok-root.ensures.come

pub returns-clause-read : goal.returns-clause-read
returns-clause-read c =
    let layout = c.in-Some.layout.now in
    let ls = c.layouts.result.now in
    let l = c.in-Some.ensures.lookup in
    let t = c.args.ty in
    let is : layout_of c.args.agreed.now.layouts t ≡ Some layout = ap (λ xs. slice_get xs t) (sym c.layouts.ensures.same) ∙ slice_get_read ls (length ls) t layout refl l.3.0 l.1 in
    let at = sym c.get-2.ensures.value ∙ ap option_copied c.in-Some-get.is in
    λ m. c.in_ok-root.ensures.read m ((c.tell_orderly.ensures.tidy t layout is).readable c.in_ok-number.number c.in-Some-get.leaf.now at)
