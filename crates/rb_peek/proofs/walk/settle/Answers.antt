use Rattle.std.proofs.Common.{[], ◌∷◌, length, map, Some, sym, subst, ap, ◌∙◌}
use Rattle.std.specs.Prelude.{slice_get}
use Rattle.std.proofs.lemmas.List.{length-map, map-append}
use Rattle.rb_core.specs.declared.types.Ty.TheVariants.{Named}
use Rattle.rb_rel.specs.Relation.{word_count}
use Rattle.rb_image.specs.Orders.{order_of}
use Rattle.rb_image.specs.Parts.{field_word}
use Rattle.rb_image.specs.Sites.{kept_of}
use Rattle.rb_image.proofs.GatheredFields.{words_long}
use Rattle.rb_image.proofs.LookLemmas.{given_ok, given_on}
use Rattle.rb_peek.specs.Walks.{IsPassed, where_at_root, seen_of, where_settled, where_of}
use Rattle.rb_peek.proofs.WayLemmas.{all_more, settled_err, settled_ok, words_found}
use Rattle.rb_peek.proofs.walk.settle.Goals as goal

pub see-requires-clause-count : goal.see-requires-clause-count
see-requires-clause-count g c =
    let image = c.args.image.now in
    let last = c.args.walk.last in
    let found = c.in_ok-sites.sites.items in
    let leaf = last.visited.leaf.now in
    let word = field_word image.blocks (map (kept_of image) c.as_slice.result.now) last.visited.words.addresses.items (order_of leaf) in
    let path = c.as_slice-at.result.now in
    let count = c.word_count-count.result in
    sym (length-map found (kept_of image)) ∙ ap length (c.in_ok-sites.ensures.sites image c.requires.placed) ∙ words_long word path 0 count
    ∙ c.word_count-count.ensures ∙ ap (λ ls. word_count ls (Named c.args.ty)) c.layouts.ensures.same

pub returns-in_err-next-clause-walk : goal.returns-in_err-next-clause-walk
returns-in_err-next-clause-walk g c =
    let layouts = c.args.agreed.now.layouts in
    let image = c.args.image.now in
    let w = where_of c.args.walk in
    let count = c.word_count-count.ensures ∙ ap (λ ls. word_count ls (Named c.args.ty)) c.layouts.ensures.same in
    let words = words_found layouts image c.args.walk.last c.requires.passed.last c.args.ty c.word_count-count.result c.as_slice-at.result.now c.as_slice.result.now c.in_ok-sites.sites.items
    c.as_slice-at.ensures c.as_slice.ensures.value count c.in_ok-sites.ensures.reached (c.in_ok-sites.ensures.sites image c.requires.placed) in
    given_on where_of (where_settled layouts image.blocks w (Some c.args.ty)) c.from_residual-in_err-next.result _ c.from_residual-in_err-next.ensures.0 c.from_residual-in_err-next.ensures.1
    (settled_err layouts image w c.args.ty (map (kept_of image) c.in_ok-sites.sites.items) _ words c.in_err-next.ensures.seen)

pub returns-clause-walk : goal.returns-clause-walk
returns-clause-walk g c =
    let layouts = c.args.agreed.now.layouts in
    let image = c.args.image.now in
    let w = where_of c.args.walk in
    let next = c.in_ok-next.next in
    let count = c.word_count-count.ensures ∙ ap (λ ls. word_count ls (Named c.args.ty)) c.layouts.ensures.same in
    let words = words_found layouts image c.args.walk.last c.requires.passed.last c.args.ty c.word_count-count.result c.as_slice-at.result.now c.as_slice.result.now c.in_ok-sites.sites.items
    c.as_slice-at.ensures c.as_slice.ensures.value count c.in_ok-sites.ensures.reached (c.in_ok-sites.ensures.sites image c.requires.placed) in
    let is = settled_ok layouts image w c.args.ty (map (kept_of image) c.in_ok-sites.sites.items) next words c.in_ok-next.ensures.seen in
    given_ok where_of (where_settled layouts image.blocks w (Some c.args.ty)) _ c.arrive.result is
    (c.arrive.ensures.walk
    ∙ ap (λ bs. where_at_root bs (seen_of next)) (ap (map seen_of) c.in_ok-push.ensures.items ∙ map-append seen_of c.args.walk.before.items (c.args.walk.last ∷ [])))

pub returns-clause-passed : goal.returns-clause-passed
returns-clause-passed g c =
    let image = c.args.image.now in
    record {
      before = λ k x is. all_more (IsPassed image) c.args.walk.before.items c.args.walk.last c.requires.passed.before c.requires.passed.last k x
          (sym (ap (λ xs. slice_get xs k) (ap (λ v. v.items) c.arrive.ensures.same.0 ∙ c.in_ok-push.ensures.items)) ∙ is);
      last = subst (IsPassed image) (sym c.arrive.ensures.same.1) c.in_ok-next.ensures.passed;
    }
