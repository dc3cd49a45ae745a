use Rattle.std.proofs.Common.{[], ◌∷◌, ◌++◌, ◌+◌, drop, map, sym, ap, ◌∙◌, append_assoc, append-nil, arith}
use Rattle.std.specs.Prelude.{slice_index_or}
use Rattle.std.proofs.lemmas.Option.{slice_get-get_or}
use Rattle.rb_image.specs.Sites.{kept_of}
use Rattle.rb_image.proofs.Blanks.{no_site}
use Rattle.rb_image.proofs.DropLemmas.{drop_item, drop_past}
use Rattle.rb_image.proofs.leaf_words.read_sites.Goals as goal

pub returns-clause-words : goal.returns-clause-words
returns-clause-words g c =
    let found = c.loop-site.found.items in
    sym (c.loop-site.invariant.words ∙ ap (λ ss. found ++ map (kept_of c.args.image.now) ss) (drop_past c.args.sites.now c.loop-site.site-index c.loop-site-test.false) ∙ append-nil found)

pub loop-site-preserved : goal.loop-site-preserved
loop-site-preserved g c =
    let sites = c.args.sites.now in
    let k = c.loop-site.site-index in
    let site = slice_index_or sites k no_site in
    let is = drop_item sites k site (slice_get-get_or sites k no_site c.loop-site-test.true) in
    let kept = kept_of c.args.image.now in
    let old = c.loop-site.found.items in
    let rest = map kept (drop (k + 1) sites) in
    let least = c.loop-site.invariant.least in
    let most = c.loop-site.invariant.most in
    let taken = c.read_site.ensures.taken in
    record {
      words = c.loop-site.invariant.words ∙ ap (λ ss. old ++ map kept ss) is ∙ sym (append_assoc old (kept site ∷ []) rest)
          ∙ ap (λ ks. ks ++ rest) (sym (c.in_ok-push.ensures.items ∙ ap (λ w. old ++ w ∷ []) c.read_site.ensures.bits));
      least = omega (arith, least, taken);
      most = omega (arith, most, taken);
    }
