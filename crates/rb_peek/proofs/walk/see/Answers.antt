use Rattle.std.proofs.Common.{◌≡◌, length, map, Some, refl, sym, subst, ap, ◌∙◌}
use Rattle.std.specs.Prelude.{slice_get}
use Rattle.std.proofs.lemmas.Option.{slice_get_read}
use Rattle.rb_layout.specs.Positions.{layout_of}
use Rattle.rb_image.specs.LeafWords.{block_addresses}
use Rattle.rb_image.specs.Sites.{kept_of}
use Rattle.rb_image.specs.Visits.{IsVisited}
use Rattle.rb_image.proofs.LookLemmas.{given_on}
use Rattle.rb_peek.specs.Walks.{see as the_sight, seen_of}
use Rattle.rb_peek.proofs.WayLemmas.{see_failed, see_found, span_fits, tidy_at}
use Rattle.rb_peek.proofs.walk.see.Goals as goal

pub visit-requires-clause-tidy : goal.visit-requires-clause-tidy
visit-requires-clause-tidy g c =
    let layouts = c.args.agreed.now.layouts in
    let layout = c.in-Some.layout.now in
    let ls = c.layouts.result.now in
    let l = c.in-Some.ensures.lookup in
    let is : layout_of layouts c.args.ty ≡ Some layout = ap (λ xs. slice_get xs c.args.ty) (sym c.layouts.ensures.same) ∙ slice_get_read ls (length ls) c.args.ty layout refl l.3.0 l.1 in
    tidy_at layouts c.args.ty layout is (c.tell_orderly.ensures.tidy c.args.ty layout is) c.as_slice.result.now c.args.sites.items c.as_slice.ensures.value c.requires.count

pub returns-in_err-visited-clause-seen : goal.returns-in_err-visited-clause-seen
returns-in_err-visited-clause-seen g c =
    let layouts = c.args.agreed.now.layouts in
    let image = c.args.image.now in
    let layout = c.in-Some.layout.now in
    let ls = c.layouts.result.now in
    let l = c.in-Some.ensures.lookup in
    let is : layout_of layouts c.args.ty ≡ Some layout = ap (λ xs. slice_get xs c.args.ty) (sym c.layouts.ensures.same) ∙ slice_get_read ls (length ls) c.args.ty layout refl l.3.0 l.1 in
    let ws = map (kept_of image) c.args.sites.items in
    given_on seen_of (the_sight layouts image.blocks c.args.ty ws) c.from_residual.result _ c.from_residual.ensures.0 c.from_residual.ensures.1
    (see_failed layouts c.args.ty layout is image.blocks ws _ (rw c.as_slice.ensures.value at c.in_err-visited.ensures.fault))

pub returns-in_err-visited-clause-most : goal.returns-in_err-visited-clause-most
returns-in_err-visited-clause-most g c =
    let layouts = c.args.agreed.now.layouts in
    let layout = c.in-Some.layout.now in
    let ls = c.layouts.result.now in
    let l = c.in-Some.ensures.lookup in
    let is : layout_of layouts c.args.ty ≡ Some layout = ap (λ xs. slice_get xs c.args.ty) (sym c.layouts.ensures.same) ∙ slice_get_read ls (length ls) c.args.ty layout refl l.3.0 l.1 in
    span_fits layouts c.args.ty layout is c.visit.new.steps.taken c.args.steps.now.taken c.visit.ensures.most

pub returns-clause-seen : goal.returns-clause-seen
returns-clause-seen g c =
    let layouts = c.args.agreed.now.layouts in
    let image = c.args.image.now in
    let layout = c.in-Some.layout.now in
    let ls = c.layouts.result.now in
    let l = c.in-Some.ensures.lookup in
    let is : layout_of layouts c.args.ty ≡ Some layout = ap (λ xs. slice_get xs c.args.ty) (sym c.layouts.ensures.same) ∙ slice_get_read ls (length ls) c.args.ty layout refl l.3.0 l.1 in
    let visited = c.in_ok-visited.visited in
    let there = subst (λ ss. IsVisited image.blocks layout (map (kept_of image) ss) visited) c.as_slice.ensures.value c.in_ok-visited.ensures.visited in
    see_found layouts c.args.ty layout is image.blocks (map (kept_of image) c.args.sites.items) _ there refl c.new-at.ensures

pub returns-clause-passed : goal.returns-clause-passed
returns-clause-passed g c =
    let layouts = c.args.agreed.now.layouts in
    let image = c.args.image.now in
    let layout = c.in-Some.layout.now in
    let ls = c.layouts.result.now in
    let l = c.in-Some.ensures.lookup in
    let is : layout_of layouts c.args.ty ≡ Some layout = ap (λ xs. slice_get xs c.args.ty) (sym c.layouts.ensures.same) ∙ slice_get_read ls (length ls) c.args.ty layout refl l.3.0 l.1 in
    let tidy = c.tell_orderly.ensures.tidy c.args.ty layout is in
    let v = c.in_ok-visited.ensures.visited in
    let leaf = c.in_ok-visited.visited.leaf.now in
    record {
      narrow = c.requires.narrow;
      words = ap (map (kept_of image)) (sym c.as_slice.ensures.value) ∙ sym v.root;
      readable = tidy.readable v.number leaf v.is_leaf;
      parts = tidy.narrow v.number leaf v.is_leaf;
      addresses = v.addresses ∙ ap (block_addresses image.blocks leaf) (sym v.root);
      numbers = v.numbers;
    }

pub returns-clause-most : goal.returns-clause-most
returns-clause-most g c =
    let layouts = c.args.agreed.now.layouts in
    let layout = c.in-Some.layout.now in
    let ls = c.layouts.result.now in
    let l = c.in-Some.ensures.lookup in
    let is : layout_of layouts c.args.ty ≡ Some layout = ap (λ xs. slice_get xs c.args.ty) (sym c.layouts.ensures.same) ∙ slice_get_read ls (length ls) c.args.ty layout refl l.3.0 l.1 in
    span_fits layouts c.args.ty layout is c.visit.new.steps.taken c.args.steps.now.taken c.visit.ensures.most
