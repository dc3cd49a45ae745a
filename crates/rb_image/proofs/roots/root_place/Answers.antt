use Rattle.std.proofs.Common.{[], ◌∷◌, ◌++◌, ◌+◌, drop, sym, ap, ◌∙◌, append_assoc}
use Rattle.std.specs.Prelude.{get_or}
use Rattle.std.proofs.lemmas.Option.{slice_get-get_or}
use Rattle.rb_image.specs.Roots.{kept_from}
use Rattle.rb_image.proofs.DropLemmas.{drop_item}
use Rattle.rb_image.proofs.roots.root_place.Goals as goal

pub loop-i-preserved : goal.loop-i-preserved
loop-i-preserved c =
    let words = c.args.words.now in
    let i = c.loop-i.i in
    let n = get_or words i 0 in
    let is = drop_item words i n (slice_get-get_or words i 0 c.loop-i-test.true) in
    let old = c.loop-i.kept.items in
    let rest = kept_from (i + 1) (drop (i + 1) words) in
    ap (λ ks. ks ++ rest) c.in_ok-push.ensures.items ∙ append_assoc old (record { number = n; base = 0; place = i } ∷ []) rest
    ∙ ap (λ ns. old ++ kept_from i ns) (sym is) ∙ c.loop-i.invariant
