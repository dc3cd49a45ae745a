-- What provenances show: what stands at a position, and which leaf all values have that a pattern matches.
use Rattle.std.proofs.Common.{◌≡◌, ℕ, zero, suc, ◌+◌, ◌<◌, ◌==◌, inl, inr, Bool, true, false, List, [], ◌∷◌, ◌++◌, map, length, Option, Some, None, refl, sym, subst, ap, ◌∙◌, arith}
use Rattle.std.specs.Prelude.{IfSome, ◌&&◌, slice_get, if◌then◌else◌}
use Rattle.std.proofs.lemmas.Bool.{false≢true, and_parts}
use Rattle.std.proofs.lemmas.Grind.{common_steps}
use Rattle.std.proofs.lemmas.Option.{same_Some}
use Rattle.rb_core.specs.declared.value.Value.{Value, out-Value}
use Rattle.rb_core.specs.declared.types.ConRef.{ConRef}
use Rattle.rb_core.specs.declared.pattern.Pat.{Pat, Wild, Var, Con}
use Rattle.rb_core.specs.Matching.{all_pass, is_con, matches_of}
use Rattle.rb_core.specs.Values.{part_at, part_from, subs_in}
use Rattle.rb_core.proofs.MatchingForms.{matches-Con, matches-Var, matches-Wild}
use Rattle.rb_layout.specs.declared.agreed.LaidOut.{LaidOut}
use Rattle.rb_layout.specs.declared.layout.Layout.{Layout}
use Rattle.rb_layout.specs.declared.layout.Leaf.{Leaf}
use Rattle.rb_layout.specs.Positions.{layout_of, leaf_from, leaf_of}
use Rattle.rb_rel.proofs.Leaves.{leaf_matches}
use Rattle.rb_target.proofs.Growing.{below_or}
use Rattle.rb_facts.specs.declared.knowledge.Known.{Known}
use Rattle.rb_facts.specs.declared.knowledge.Known.TheVariants as K
use Rattle.rb_facts.specs.Knowing.{IsKnown}
use Rattle.rb_matrix.specs.Apart.{PatternsAreApart}
use Rattle.rb_matrix.specs.Covering.{Covers}
use Rattle.rb_facts.specs.Threading.{AllFollow}
use Rattle.rb_facts.specs.inner.Threading.{AreWild, TellsConstructor, HasSub, IsAtLeaf, IsFirst, IsLeafOfAll, IsWild, ShowTogether, Tells, TellTogether}
use Rattle.rb_matrix.proofs.Differing.{pass-at}
use Rattle.rb_facts.proofs.Following.{snoc-at}
use Rattle.rb_facts.proofs.Placing.{part-append}
use denote.Ref.{Bor}
use Rattle.rb_core.specs.declared.value.Value.TheOpen as V
use Rattle.rb_core.specs.declared.value.Value.TheOpen.{Value-F}
use Rattle.rb_facts.proofs.Numbers.{same-nat}

pub begins_with : (d : ℕ) (ts : List (Value → Bool)) (l : Value-F Value) → is_con d ts l ≡ true → (us : List Value) × (l ≡ V.Con d us) × (all_pass ts us ≡ true)
begins_with d ts (V.Num n) e = absurd (false≢true e)
begins_with d ts (V.Con k us) e = let b = and_parts (d == k) (all_pass ts us) e in (us, ap (λ n. V.Con n us) (sym (same-nat d k b.0)), b.1)

-- Provenances

pub sub_here : (pat : Pat) → HasSub pat [] pat
sub_here pat = λ v m. (v, refl, m)

pub sub_below : (token : ℕ) (c : ConRef) (ps : List Pat) (field : ℕ) (rest : List ℕ) (sub deep : Pat) → slice_get ps field ≡ Some sub → HasSub sub rest deep → HasSub (Con token c ps) (field ∷ rest) deep
sub_below token c ps field rest sub deep at has = λ v m.
    let b = begins_with c.con (map matches_of ps) (out-Value v) (sym (matches-Con v token c ps) ∙ m) in
    let u = pass-at ps b.0 field sub b.2 at in
    let h = has u.0 u.2 in
    (h.0, ap (λ l. part_from (slice_get (subs_in l) field) rest) b.1 ∙ ap (λ o. part_from o rest) u.1 ∙ h.1, h.2)

pub below_option : (token : ℕ) (c : ConRef) (ps : List Pat) (field : ℕ) (rest : List ℕ) (sub : Pat) (o : Option (Bor Pat)) → slice_get ps field ≡ Some sub → IfSome o (λ deep. HasSub sub rest deep.now)
    → IfSome o (λ deep. HasSub (Con token c ps) (field ∷ rest) deep.now)
below_option token c ps field rest sub None at h = tt
below_option token c ps field rest sub (Some deep) at h = sub_below token c ps field rest sub deep.now at h

-- the constructor with which it begins
pub con_begins : (pat : Pat) (token : ℕ) (c : ConRef) (ps : List Pat) → pat ≡ Con token c ps → TellsConstructor pat c.con
con_begins pat token c ps is = λ v m.
    let b = begins_with c.con (map matches_of ps) (out-Value v) (sym (matches-Con v token c ps) ∙ ap (λ (q : Pat). matches_of q v) (sym is) ∙ m) in
    (b.0, b.1)

-- Leaves

pub wild_is : (p : Pat) (at : ℕ) → p ≡ Wild at → IsWild p
wild_is p at is v = ap (λ (q : Pat). matches_of q v) is ∙ matches-Wild v at

pub var_is : (p : Pat) (at x : ℕ) → p ≡ Var at x → IsWild p
var_is p at x is v = ap (λ (q : Pat). matches_of q v) is ∙ matches-Var v at x

-- the first so many patterns are wild
abbrev pub WildBelow : List Pat → ℕ → Type 0
WildBelow pats i = (n : ℕ) (p : Pat) → n < i → slice_get pats n ≡ Some p → IsWild p

pub wild_next : (pats : List Pat) (i : ℕ) (p : Pat) → slice_get pats i ≡ Some p → IsWild p → WildBelow pats i → WildBelow pats (i + 1)
wild_next pats i p at wild below n x lt is = elim (below_or n i) [
  | inl less ↦ below n x less is
  | inr more ↦ (let e : i ≡ n = omega (arith, lt, more) in
      let same : p ≡ x = same_Some p x (sym at ∙ ap (slice_get pats) e ∙ is) in subst (λ (q : Pat). IsWild q) same wild)
]

wild_pass : (ps qs : List Pat) (us : List Value) → AreWild ps → length ps ≡ length qs → all_pass (map matches_of qs) us ≡ true → all_pass (map matches_of ps) us ≡ true
wild_pass [] [] us w n e = e
wild_pass [] (q ∷ qs) us w n e = absurd (omega (arith, n))
wild_pass (p ∷ ps) [] us w n e = absurd (omega (arith, n))
wild_pass (p ∷ ps) (q ∷ qs) [] w n e = absurd (false≢true e)
wild_pass (p ∷ ps) (q ∷ qs) (u ∷ us) w n e =
    let b = and_parts (matches_of q u) (all_pass (map matches_of qs) us) e in
    ap (λ x. x && all_pass (map matches_of ps) us) (w 0 p refl u) ∙ wild_pass ps qs us (λ k x at. w (suc k) x at) (omega (arith, n)) b.1

-- a constructor over wildcards matches each value that begins with it
pub covers : (p q : Pat) (at bt : ℕ) (c d : ConRef) (ps qs : List Pat) → p ≡ Con at c ps → q ≡ Con bt d qs → c.con ≡ d.con → length ps ≡ length qs → AreWild ps → Covers p q
covers p q at bt c d ps qs is iq same n wild = λ v m.
    let b = begins_with d.con (map matches_of qs) (out-Value v) (sym (matches-Con v bt d qs) ∙ ap (λ (x : Pat). matches_of x v) (sym iq) ∙ m) in
    let con : (c.con == d.con) ≡ true = grind (arith, common_steps, same) in
    ap (λ (x : Pat). matches_of x v) is ∙ matches-Con v at c ps ∙ ap (is_con c.con (map matches_of ps)) b.1
    ∙ ap (λ x. x && all_pass (map matches_of ps) b.0) con ∙ wild_pass ps qs b.0 wild n b.2

-- the first so many leaves have no values that the pattern matches
abbrev pub NoneBelow : List Leaf → Pat → ℕ → Type 0
NoneBelow leaves pat i = (n : ℕ) (leaf : Leaf) → n < i → slice_get leaves n ≡ Some leaf → PatternsAreApart leaf.prov pat

pub none_next : (leaves : List Leaf) (pat : Pat) (i : ℕ) (leaf : Leaf) → slice_get leaves i ≡ Some leaf → PatternsAreApart leaf.prov pat → NoneBelow leaves pat i → NoneBelow leaves pat (i + 1)
none_next leaves pat i leaf at apart none n x lt is = elim (below_or n i) [
  | inl less ↦ none n x less is
  | inr more ↦ (let e : i ≡ n = omega (arith, lt, more) in
      let same : leaf ≡ x = same_Some leaf x (sym at ∙ ap (slice_get leaves) e ∙ is) in subst (λ (l : Leaf). PatternsAreApart l.prov pat) same apart)
]

first_case : (l : Leaf) (ls : List Leaf) (v : Value) (from k : ℕ) (b : Bool) → matches_of l.prov v ≡ b → (matches_of l.prov v ≡ true → ⊥) → leaf_from ls v (from + 1) ≡ Some (from + 1 + k)
    → (if b then Some from else leaf_from ls v (from + 1)) ≡ Some (from + suc k)
first_case l ls v from k true is none rest = absurd (none is)
first_case l ls v from k false is none rest = let z : from + 1 + k ≡ from + suc k = omega arith in rest ∙ ap Some z

first_at : (ls : List Leaf) (v : Value) (from k : ℕ) (leaf : Leaf) → ((n : ℕ) (l : Leaf) → n < k → slice_get ls n ≡ Some l → matches_of l.prov v ≡ true → ⊥) → slice_get ls k ≡ Some leaf → matches_of leaf.prov v ≡ true
    → leaf_from ls v from ≡ Some (from + k)
first_at [] v from k leaf none at m = absurd cc
first_at (l ∷ ls) v from zero leaf none at m =
    let z : from ≡ from + 0 = omega arith in
    ap (λ b. if b then Some from else leaf_from ls v (from + 1)) (ap (λ (x : Leaf). matches_of x.prov v) (same_Some l leaf at) ∙ m) ∙ ap Some z
first_at (l ∷ ls) v from (suc k) leaf none at m =
    first_case l ls v from k (matches_of l.prov v) refl (none 0 l (omega arith) refl) (first_at ls v (from + 1) k leaf (λ n x lt h. none (suc n) x (omega (arith, lt)) h) at m)

pub is_first : (leaves : List Leaf) (pat : Pat) (i : ℕ) (leaf : Leaf) → slice_get leaves i ≡ Some leaf → Covers leaf.prov pat → NoneBelow leaves pat i → IsFirst leaves pat i
is_first leaves pat i leaf at all none = λ v m.
    let z : 0 + i ≡ i = omega arith in
    first_at leaves v 0 i leaf (λ n l lt is h. none n l lt is v h m) at (all v m) ∙ ap Some z

pub leaf_of_all : (agreed : LaidOut) (t : ℕ) (pat : Pat) (layout : Layout) (o : Option ℕ) → layout_of agreed.layouts t ≡ Some layout → IfSome o (λ leaf. IsFirst layout.leaves pat leaf) → IfSome o (λ leaf. IsLeafOfAll agreed t pat leaf)
leaf_of_all agreed t pat layout None is h = tt
leaf_of_all agreed t pat layout (Some leaf) is h = (layout, is, h)

-- Facts

tells : (agreed : LaidOut) (above : Bor (List ℕ)) (t l : ℕ) (position rest : List ℕ) (layout : Layout) (leaf : Leaf) (sub : Pat) → layout_of agreed.layouts t ≡ Some layout → slice_get layout.leaves l ≡ Some leaf
    → position ≡ above.now ++ rest → HasSub leaf.prov rest sub → Tells agreed (K.Leaf above t l) position sub
tells agreed above t l position rest layout leaf sub is is_leaf split has = λ at of h.
    let same : h.1 ≡ layout = same_Some h.1 layout (sym h.3 ∙ ap (λ ls. layout_of ls t) of.layouts ∙ is) in
    let number : leaf_of layout h.0 ≡ Some l = ap (λ y. leaf_of y h.0) (sym same) ∙ h.4 in
    let start : 0 + l ≡ l = omega arith in
    let b = has h.0 (leaf_matches layout.leaves h.0 0 l leaf number l start is_leaf) in
    (b.0, ap (part_at at.value) split ∙ part-append (Some at.value) above.now rest ∙ ap (λ o. part_from o rest) h.2 ∙ b.1, b.2)

pub tells_option : (agreed : LaidOut) (above : Bor (List ℕ)) (t l : ℕ) (position rest : List ℕ) (layout : Layout) (leaf : Leaf) (o : Option (Bor Pat)) → layout_of agreed.layouts t ≡ Some layout → slice_get layout.leaves l ≡ Some leaf
    → position ≡ above.now ++ rest → IfSome o (λ sub. HasSub leaf.prov rest sub.now) → IfSome o (λ sub. Tells agreed (K.Leaf above t l) position sub.now)
tells_option agreed above t l position rest layout leaf None is is_leaf split has = tt
tells_option agreed above t l position rest layout leaf (Some sub) is is_leaf split has = tells agreed above t l position rest layout leaf sub.now is is_leaf split has

pub tell_option : (agreed : LaidOut) (known : List Known) (i : ℕ) (x : Known) (position : List ℕ) (o : Option (Bor Pat)) → slice_get known i ≡ Some x → IfSome o (λ sub. Tells agreed x position sub.now)
    → IfSome o (λ sub. TellTogether agreed known position sub.now)
tell_option agreed known i x position None at h = tt
tell_option agreed known i x position (Some sub) at h = λ view of all. h view of (all i x at)

pub at_leaf : (agreed : LaidOut) (pat : Pat) (position : Bor (List ℕ)) (t leaf : ℕ) → IsLeafOfAll agreed t pat leaf → IsAtLeaf agreed pat position.now (K.Leaf position t leaf)
at_leaf agreed pat position t leaf all = λ at of m. (m.0, all.0, m.1, ap (λ ls. layout_of ls t) of.layouts ∙ all.1, all.2 m.0 m.2)

pub show_option : (agreed : LaidOut) (known : List Known) (position : List ℕ) (sub : Pat) (o : Option Known) → TellTogether agreed known position sub → IfSome o (λ fact. IsAtLeaf agreed sub position fact)
    → IfSome o (λ fact. ShowTogether agreed known fact)
show_option agreed known position sub None t h = tt
show_option agreed known position sub (Some fact) t h = λ view of all. h view of (t view of all)

pub follow_push : (agreed : LaidOut) (known : List Known) (fact : Known) → ShowTogether agreed known fact → AllFollow agreed known (known ++ fact ∷ [])
follow_push agreed known fact shown = λ at of all i x e. elim (snoc-at known fact x i e) [
  | inl j ↦ all i x j
  | inr same ↦ subst (IsKnown at) same (shown at of all)
]
