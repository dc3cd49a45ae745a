-- What stands at the sites of root words.
use Rattle.std.proofs.Common.{◌≡◌, ℕ, zero, suc, ◌+◌, ◌-◌, ◌^◌, ◌<◌, ◌≤◌, length, map, List, [], ◌∷◌, ◌++◌, Some, refl, sym, subst, ap, ◌∙◌, append-nil, arith}
use Rattle.std.specs.Prelude.{slice_get, unwrap_or}
use Rattle.rb_bits.specs.Words.{take_of}
use Rattle.rb_bits.proofs.RangeLemmas.{take_whole}
use Rattle.rb_image_text.specs.declared.image.Image.{Image}
use Rattle.rb_image.specs.declared.site.Site.{Site}
use Rattle.rb_image.specs.FieldSites.{AreNarrow, AreRootSites}
use Rattle.rb_image.specs.Roots.{kept_from}
use Rattle.rb_image.specs.Sites.{kept_of}
use Rattle.rb_image.specs.inner.Siting.{sites_from, whole_root}
use Rattle.rb_image.proofs.SitingLemmas.{from_narrow}

pub all_found : (count j : ℕ) (found : List Site) → count ≤ j → sites_from whole_root 0 count ≡ found ++ sites_from whole_root j (count - j) → found ≡ sites_from whole_root 0 count
all_found count j found le is =
    let none : count - j ≡ 0 = omega (arith, le) in
    sym (is ∙ ap (λ n. found ++ sites_from whole_root j n) none ∙ append-nil found)

module _ (image : Image) where
  word_there : (j n : ℕ) → slice_get image.root j ≡ Some n → n < 2 ^ 64 → kept_of image (whole_root j) ≡ record { number = n; base = 0; place = j }
  word_there j n is lt = ap (λ k. record { number = k; base = 0; place = j }) (ap (λ o. take_of (unwrap_or o 0) 0 64) is ∙ take_whole n 64 lt)

  from_there : (ns : List ℕ) (j : ℕ) → ((k n : ℕ) → slice_get ns k ≡ Some n → (slice_get image.root (j + k) ≡ Some n) × (n < 2 ^ 64))
      → map (kept_of image) (sites_from whole_root j (length ns)) ≡ kept_from j ns
  from_there [] j each = refl
  from_there (n ∷ ns) j each =
      let here = each 0 n refl in
      let first : j + 0 ≡ j = omega arith in
      ap (λ w. w ∷ map (kept_of image) (sites_from whole_root (j + 1) (length ns))) (word_there j n (ap (slice_get image.root) (sym first) ∙ here.0) here.1)
      ∙ ap (λ ws. record { number = n; base = 0; place = j } ∷ ws) (from_there ns (j + 1) (λ k m e. (let r = each (suc k) m e in let up : j + 1 + k ≡ j + suc k = omega arith in (ap (slice_get image.root) up ∙ r.0, r.1))))

pub root_words : (count : ℕ) (found : List Site) → found ≡ sites_from whole_root 0 count → AreRootSites count found
root_words count found is image long below =
    ap (map (kept_of image)) (is ∙ ap (sites_from whole_root 0) (sym long)) ∙ from_there image image.root 0 (λ k n e. (ap (slice_get image.root) (plus k) ∙ e, below k n e))
  where
    plus : (k : ℕ) → 0 + k ≡ k
    plus k = omega arith

from_count : (j n : ℕ) → length (sites_from whole_root j n) ≡ n
from_count j zero = refl
from_count j (suc n) = ap suc (from_count (j + 1) n)

pub root_count : (count : ℕ) (found : List Site) → found ≡ sites_from whole_root 0 count → length found ≡ count
root_count count found is = ap length is ∙ from_count 0 count

pub root_narrow : (count : ℕ) (found : List Site) → found ≡ sites_from whole_root 0 count → AreNarrow found
root_narrow count found is = subst AreNarrow (sym is) (from_narrow whole_root (λ j. omega arith) 0 count)
