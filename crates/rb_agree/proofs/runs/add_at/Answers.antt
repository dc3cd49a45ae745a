use Rattle.std.proofs.Common.{◌≡◌, ◌<◌, length, get_or, sym, ap, ◌∙◌, arith, refl}
use Rattle.std.proofs.lemmas.Option.{same_Some, slice_get-get_or}
use Rattle.std.proofs.lemmas.Result.{on_ok_weaker}
use Rattle.rb_layout.specs.declared.opens.OpenPosition.{OpenPosition}
use Rattle.rb_agree.specs.inner.Gathered.{has_words}
use Rattle.rb_agree.proofs.Gathering.{here-added, nowhere, other-units, units-other, units-same}
use Rattle.rb_agree.proofs.runs.add_at.Goals as goal

pub returns-in_default : goal.returns-in_default
returns-in_default c = nowhere c.args.places.now c.args.path.now c.args.words c.args.run c.args.rows.now c.in_default.ensures.place

pub add_run-requires : goal.add_run-requires
add_run-requires c = omega (arith, c.in-Some.ensures.within, c.requires.rows)

pub returns-then-words-has_words : goal.returns-then-words-has_words
returns-then-words-has_words c =
    let h = c.in-Some.ensures.place in
    let place : OpenPosition = get_or c.args.places.now c.in-Some.n c.index-places-n.result in
    let at = slice_get-get_or c.args.places.now c.in-Some.n c.index-places-n.result c.in-Some.ensures.within in
    let units : has_words place.ty ≡ has_words h.0.ty = ap (λ (x : OpenPosition). has_words x.ty) (same_Some place h.0 (sym at ∙ h.1)) in
    let inside : c.in-Some.n < length c.args.rows.now = omega (arith, c.in-Some.ensures.within, c.requires.rows) in
    on_ok_weaker c.add_run.result
    (λ e. here-added c.args.places.now c.args.path.now c.args.words c.args.run c.requires.order c.in-Some.n h c.args.rows.now c.add_run.new.rows
    (units-same c.args.words c.has_words.result c.if-words-has_words.true ∙ c.has_words.ensures ∙ units) inside e) c.add_run.ensures

pub returns : goal.returns
returns c =
    let h = c.in-Some.ensures.place in
    let place : OpenPosition = get_or c.args.places.now c.in-Some.n c.index-places-n.result in
    let at = slice_get-get_or c.args.places.now c.in-Some.n c.index-places-n.result c.in-Some.ensures.within in
    let units : has_words place.ty ≡ has_words h.0.ty = ap (λ (x : OpenPosition). has_words x.ty) (same_Some place h.0 (sym at ∙ h.1)) in
    other-units c.args.places.now c.args.path.now c.args.words c.args.run c.requires.order c.in-Some.n h c.args.rows.now c.args.rows.now
    (λ e. units-other c.args.words c.has_words.result c.if-words-has_words.false (e ∙ sym units ∙ sym c.has_words.ensures)) refl
