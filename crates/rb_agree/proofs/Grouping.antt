-- Leaves that may share a value: constructors at a path, the groups by them, and what no group shows.
use Rattle.std.proofs.Common.{◌≡◌, ℕ, zero, suc, ◌⊎◌, inl, inr, get_or, ◌+◌, ◌<◌, ◌≤◌, List, [], ◌∷◌, ◌++◌, length, drop, add-one, Bool, true, false, Option, Some, None, refl, sym, ap, subst, ◌∙◌, arith}
use Rattle.std.specs.Prelude.{slice_get, MatchBool}
use Rattle.std.proofs.lemmas.Bool.{cases_lt, false≢true}
use Rattle.std.proofs.lemmas.List.{length-append}
use Rattle.std.proofs.lemmas.Option.{same_Some, slice_get_within}
use Rattle.rb_core.specs.declared.types.DataDecl.{DataDecl}
use Rattle.rb_core.specs.declared.types.ConRef.{ConRef}
use Rattle.rb_core.specs.declared.pattern.Pat.{Pat, Con, out-Pat}
use Rattle.rb_core.specs.declared.pattern.Pat.TheVariants.{outs-Wild, outs-Var, outs-Num, outs-Con}
use Rattle.rb_core.proofs.PatternLaws.{induction}
use Rattle.rb_layout.specs.declared.layout.Leaf.{Leaf}
use Rattle.rb_layout.specs.A5.{HaveCommon}
use Rattle.rb_layout.proofs.Walks.{drop_from}
use Rattle.rb_layout.specs.Positions.{con_of_layer, sub_of_layer}
use Rattle.rb_agree.specs.inner.Sharing.{ApartWhereOff, AreGroups, HaveAll, HaveBefore, IsAlone, IsGroupOf, IsMember, MayBe, SharesNone, SharesNot, con_at, con_from, heads_in}
use Rattle.rb_matrix.specs.Apart.{PatternsAreApart}
use Rattle.rb_matrix.proofs.Differing.{cons-apart}
use Rattle.rb_agree.proofs.Lists.{at-item, map-at}

-- Items behind others ----------------------------------------------------------------------------------------

pub at-old : {A : Type 0} (xs : List A) (y : A) (k : ℕ) → k < length xs → slice_get (xs ++ y ∷ []) k ≡ slice_get xs k
at-old [] y k lt = absurd (omega (arith, lt))
at-old (x ∷ xs) y zero lt = refl
at-old (x ∷ xs) y (suc k) lt = at-old xs y k (omega (arith, lt))

pub at-new : {A : Type 0} (xs : List A) (y : A) → slice_get (xs ++ y ∷ []) (length xs) ≡ Some y
at-new [] y = refl
at-new (x ∷ xs) y = at-new xs y

pub length-more : {A : Type 0} (xs : List A) (y : A) → length (xs ++ y ∷ []) ≡ length xs + 1
length-more xs y = length-append xs (y ∷ [])

-- Constructors at paths --------------------------------------------------------------------------------------

pub record IsRoot (p : Pat) (a : ℕ) : Type 0 where
  pub at : ℕ
  pub con : ConRef
  pub pats : List Pat
  pub is : p ≡ Con at con pats
  pub number : con.con ≡ a

pub record IsSub (p : Pat) (i : ℕ) (q : Pat) : Type 0 where
  pub at : ℕ
  pub con : ConRef
  pub pats : List Pat
  pub is : p ≡ Con at con pats
  pub sub : slice_get pats i ≡ Some q

root-of : (p : Pat) (a : ℕ) → con_of_layer (out-Pat p) ≡ Some a → IsRoot p a
root-of p = induction (λ (q : Pat). (a : ℕ) → con_of_layer (out-Pat q) ≡ Some a → IsRoot q a) (record {
  wild = λ at a e. absurd (cc (sym (ap con_of_layer (outs-Wild at)) ∙ e));
  var = λ at x a e. absurd (cc (sym (ap con_of_layer (outs-Var at x)) ∙ e));
  num = λ at n a e. absurd (cc (sym (ap con_of_layer (outs-Num at n)) ∙ e));
  con = λ at c ps each a e. record { at = at; con = c; pats = ps; is = refl; number = same_Some c.con a (sym (ap con_of_layer (outs-Con at c ps)) ∙ e) };
}) p

sub-of : (p : Pat) (i : ℕ) (q : Pat) → sub_of_layer (out-Pat p) i ≡ Some q → IsSub p i q
sub-of p = induction (λ (r : Pat). (i : ℕ) (q : Pat) → sub_of_layer (out-Pat r) i ≡ Some q → IsSub r i q) (record {
  wild = λ at i q e. absurd (cc (sym (ap (λ l. sub_of_layer l i) (outs-Wild at)) ∙ e));
  var = λ at x i q e. absurd (cc (sym (ap (λ l. sub_of_layer l i) (outs-Var at x)) ∙ e));
  num = λ at n i q e. absurd (cc (sym (ap (λ l. sub_of_layer l i) (outs-Num at n)) ∙ e));
  con = λ at c ps each i q e. record { at = at; con = c; pats = ps; is = refl; sub = sym (ap (λ l. sub_of_layer l i) (outs-Con at c ps)) ∙ e };
}) p

some-sub : (x : Option Pat) (path : List ℕ) (a : ℕ) → con_from x path ≡ Some a → (q : Pat) × (x ≡ Some q)
some-sub None path a e = absurd cc
some-sub (Some q) path a e = (q, refl)

pub differ-at : (path : List ℕ) (p q : Pat) (a b : ℕ) → con_at p path ≡ Some a → con_at q path ≡ Some b → (a ≡ b → ⊥) → PatternsAreApart p q
differ-at [] p q a b e f other =
    let r = root-of p a e in
    let s = root-of q b f in
    cons-apart r.at s.at r.con s.con r.pats s.pats p q r.is s.is (λ same. absurd (other (sym r.number ∙ same ∙ s.number)))
differ-at (i ∷ path) p q a b e f other =
    let x = some-sub (sub_of_layer (out-Pat p) i) path a e in
    let y = some-sub (sub_of_layer (out-Pat q) i) path b f in
    let r = sub-of p i x.0 x.1 in
    let s = sub-of q i y.0 y.1 in
    let inner = differ-at path x.0 y.0 a b (sym (ap (λ z. con_from z path) x.1) ∙ e) (sym (ap (λ z. con_from z path) y.1) ∙ f) other in
    cons-apart r.at s.at r.con s.con r.pats s.pats p q r.is s.is (λ same. (i, x.0, y.0, r.sub, s.sub, inner))

pub con-next : (p : Pat) (path : List ℕ) (i field : ℕ) (sub : Option Pat) (all : Option ℕ) → slice_get path i ≡ Some field → sub ≡ sub_of_layer (out-Pat p) field
    → con_from (Some p) (drop i path) ≡ all → con_from sub (drop (i + 1) path) ≡ all
con-next p path i field sub all at is here =
    ap (λ x. con_from x (drop (i + 1) path)) is ∙ ap (λ m. con_from (sub_of_layer (out-Pat p) field) (drop m path)) (add-one i)
    ∙ sym (ap (λ q. con_from (Some p) q) (drop_from path i field at)) ∙ here

-- Groups -----------------------------------------------------------------------------------------------------

pub in-more : (members : List ℕ) (y m : ℕ) → IsMember members m → IsMember (members ++ y ∷ []) m
in-more members y m h = (h.0, at-old members y h.0 (slice_get_within members h.0 m h.1) ∙ h.1)

module _ (heads : List (Option ℕ)) (con : ℕ) where
  pub member-added : (i y : ℕ) (members new : List ℕ) → HaveBefore heads con i members → y ≡ i → new ≡ members ++ y ∷ [] → HaveBefore heads con (i + 1) new
  member-added i y members new before is added = λ m head lt at may.
      subst (λ ms. IsMember ms m) (sym added) (elim (cases_lt m i) [
        | inl less ↦ in-more members y m (before m head less at may)
        | inr most ↦ (length members, at-new members y ∙ ap Some (is ∙ omega (arith, most, lt)))
      ])

  pub member-left : (i : ℕ) (head : Option ℕ) (members : List ℕ) → i < length heads → head ≡ get_or heads i head → (MayBe head con → ⊥) → HaveBefore heads con i members → HaveBefore heads con (i + 1) members
  member-left i head members within is never before = λ m other lt at may. elim (cases_lt m i) [
    | inl less ↦ before m other less at may
    | inr most ↦ (let same : m ≡ i = omega (arith, most, lt) in
        let one : head ≡ other = same_Some head other (sym (at-item heads i head within is) ∙ ap (λ k. slice_get heads k) (sym same) ∙ at) in
        absurd (never (subst (λ h. MayBe h con) (sym one) may)))
  ]

  pub all-members : (i : ℕ) (members : List ℕ) → length heads ≤ i → HaveBefore heads con i members → HaveAll heads con members
  all-members i members le before = λ m head at may. let within = slice_get_within heads m head at in before m head (omega (arith, within, le)) at may

module _ (heads : List (Option ℕ)) where
  abbrev pub GroupsSoFar : ℕ → List (List ℕ) → Type 0
  GroupsSoFar con groups = (length groups ≡ con) × AreGroups heads groups

  pub group-added : (con : ℕ) (members : List ℕ) (groups new : List (List ℕ)) → GroupsSoFar con groups → HaveAll heads con members → new ≡ groups ++ members ∷ [] → GroupsSoFar (con + 1) new
  group-added con members groups new so all added = subst (λ gs. GroupsSoFar (con + 1) gs) (sym added) (
    length-more groups members ∙ ap (λ n. n + 1) so.0,
    λ c ms at. elim (cases_lt c (length groups)) [
      | inl less ↦ so.1 c ms (sym (at-old groups members c less) ∙ at)
      | inr most ↦ (let within = slice_get_within (groups ++ members ∷ []) c ms at in
          let last : c ≡ length groups = omega (arith, most, subst (λ n. c < n) (length-more groups members) within) in
          let one : members ≡ ms = same_Some members ms (sym (at-new groups members) ∙ ap (λ k. slice_get (groups ++ members ∷ []) k) (sym last) ∙ at) in
          subst (λ xs. HaveAll heads c xs) one (subst (λ k. HaveAll heads k members) (sym (last ∙ so.0)) all))
    ],
  )

-- Leaves that share nothing ------------------------------------------------------------------------------------

same-or : (d c : ℕ) → (d ≡ c) ⊎ (d ≡ c → ⊥)
same-or d c = elim (cases_lt d c) [
  | inl less ↦ inr (λ same. absurd (omega (arith, same, less)))
  | inr most ↦ (elim (cases_lt c d) [ inl more ↦ inr (λ same. absurd (omega (arith, same, more))) | inr least ↦ inl (omega (arith, most, least)) ])
]

may-or : (head : Option ℕ) (c : ℕ) → MayBe head c ⊎ ((d : ℕ) × (head ≡ Some d) × (d ≡ c → ⊥))
may-or None c = inl tt
may-or (Some d) c = elim (same-or d c) [ inl same ↦ inl same | inr other ↦ inr (d, refl, other) ]

module _ (types : List DataDecl) (t : ℕ) (leaves : List Leaf) (n : ℕ) (leaf : Leaf) where
  pub shares-not : (m : ℕ) (one : Leaf) (b : Bool) → slice_get leaves m ≡ Some one → MatchBool b (HaveCommon types t leaf.prov one.prov) (HaveCommon types t leaf.prov one.prov → ⊥) → b ≡ false
      → SharesNot types t leaves n leaf m
  shares-not m one true at none clear = absurd (false≢true (sym clear))
  shares-not m one false at none clear = λ later less found common. none (subst (λ (x : Leaf). HaveCommon types t leaf.prov x.prov) (same_Some later one (sym found ∙ at)) common)

  pub shares-next : (members : List ℕ) (k : ℕ) (m : ℕ) → SharesNone types t leaves n leaf members k → slice_get members k ≡ Some m
      → SharesNot types t leaves n leaf m → SharesNone types t leaves n leaf members (k + 1)
  shares-next members k m before at none = λ j x later lt is less found. elim (cases_lt j k) [
    | inl sooner ↦ before j x later sooner is less found
    | inr most ↦ (let same : j ≡ k = omega (arith, most, lt) in
        let one : x ≡ m = same_Some x m (sym is ∙ ap (λ i. slice_get members i) same ∙ at) in
        none later (subst (λ y. n < y) one less) (subst (λ y. slice_get leaves y ≡ Some later) one found))
  ]

  pub is-alone : (path : List ℕ) (heads : List (Option ℕ)) (members : List ℕ) → heads ≡ heads_in path leaves → slice_get leaves n ≡ Some leaf → IsGroupOf heads n members
      → SharesNone types t leaves n leaf members (length members) → IsAlone types t leaves n leaf
  is-alone path heads members is at group none = λ m later less found common.
      let head-n : con_at leaf.prov path ≡ Some group.0 =
      same_Some (con_at leaf.prov path) (Some group.0) (sym (map-at (λ (x : Leaf). con_at x.prov path) leaves n leaf at) ∙ ap (λ hs. slice_get hs n) (sym is) ∙ group.1) in
      let head-m : slice_get heads m ≡ Some (con_at later.prov path) =
      ap (λ hs. slice_get hs m) is ∙ map-at (λ (x : Leaf). con_at x.prov path) leaves m later found in
      elim (may-or (con_at later.prov path) group.0) [
        | inl may ↦ (let here = group.2 m (con_at later.prov path) head-m may in
            none here.0 m later (slice_get_within members here.0 m here.1) here.1 less found common)
        | inr other ↦ differ-at path leaf.prov later.prov group.0 other.0 head-n other.1 (λ same. other.2 (sym same)) common.0 common.2 common.3
      ]

module _ (types : List DataDecl) (t : ℕ) (leaves : List Leaf) where
  abbrev pub SoFar : ℕ → List Bool → Type 0
  SoFar n marks = (length marks ≡ n) × ApartWhereOff types t leaves marks

  pub mark-added : (n : ℕ) (leaf : Leaf) (b : Bool) (marks new : List Bool) → SoFar n marks → n < length leaves → leaf ≡ get_or leaves n leaf → (b ≡ false → IsAlone types t leaves n leaf) → new ≡ marks ++ b ∷ []
      → SoFar (n + 1) new
  mark-added n leaf b marks new so within is alone added = subst (λ ms. SoFar (n + 1) ms) (sym added) (
    length-more marks b ∙ ap (λ k. k + 1) so.0,
    λ k x off at. elim (cases_lt k (length marks)) [
      | inl less ↦ so.1 k x (sym (at-old marks b k less) ∙ off) at
      | inr most ↦ (let inside = slice_get_within (marks ++ b ∷ []) k false off in
          let last : k ≡ length marks = omega (arith, most, subst (λ i. k < i) (length-more marks b) inside) in
          let clear : b ≡ false = same_Some b false (sym (at-new marks b) ∙ ap (λ i. slice_get (marks ++ b ∷ []) i) (sym last) ∙ off) in
          let same : k ≡ n = last ∙ so.0 in
          let one : leaf ≡ x = same_Some leaf x (sym (at-item leaves n leaf within is) ∙ ap (λ i. slice_get leaves i) (sym same) ∙ at) in
          subst (λ (y : Leaf). IsAlone types t leaves k y) one (subst (λ i. IsAlone types t leaves i leaf) (sym same) (alone clear)))
    ],
  )
