-- From what the rules find to agreement, and to the first place that fails.
use Rattle.std.proofs.Common.{◌≡◌, ℕ, zero, suc, ◌+◌, ◌<◌, ◌≤◌, List, [], ◌∷◌, ◌++◌, length, Bool, true, false, Option, Some, None, Result, IfOk, refl, sym, ap, subst, ◌∙◌, arith}
use Rattle.std.specs.Prelude.{slice_get, nat_lt, nat_le, ◌&&◌, ◌==◌, if◌then◌else◌}
use Rattle.std.specs.List.{list_all}
use Rattle.std.proofs.lemmas.Bool.{leb-true}
use Rattle.std.proofs.lemmas.List.{append-nil, append_assoc}
use Rattle.std.proofs.lemmas.List.Concat.{flat_map-append}
use Rattle.std.proofs.lemmas.Option.{same_Some, slice_get_within}
use Rattle.std.proofs.lemmas.Result.{IfOk-weaker}
use Rattle.rb_core.specs.declared.program.Program.{Program}
use Rattle.rb_core.specs.declared.types.DataDecl.{DataDecl}
use Rattle.rb_core.specs.declared.layout_decl.LayoutDecl.{LayoutDecl}
use Rattle.rb_core.specs.TypedPrograms.{IsTyped}
use Rattle.rb_core.specs.Layouts.{is_short_layout, provenances}
use Rattle.rb_core.specs.WellNumbered.{is_between, layout_is_numbered, provenance_is_numbered}
use Rattle.rb_layout.specs.declared.layout.Layout.{Layout}
use Rattle.rb_layout.specs.declared.layout.Leaf.{Leaf}
use Rattle.rb_layout.specs.declared.evidence.Refused.{Refused}
use Rattle.rb_layout.specs.A1.{A1, HasShape}
use Rattle.rb_layout.specs.Agreement.{AreAgreed}
use Rattle.rb_layout.specs.Each.{EachLeaf}
use Rattle.rb_layout.specs.Flattening.{AreInOrder, HaveLayouts, decl_of, flat_layout, flat_layouts}
use Rattle.rb_layout.specs.Positions.{layout_of}
use Rattle.rb_layout.specs.Readable.{IsReadable}
use Rattle.rb_layout.specs.Spots.{Spot, Checked, IsRefusedBy, all_spots, by_leaves, by_types, shape_spots}
use Rattle.rb_layout.specs.Spots as S
use Rattle.rb_layout.proofs.Places.{places_are_all}
use Rattle.rb_layout.proofs.Readable.{readable}
use Rattle.rb_matrix.proofs.Vectors.{and-left, and-right}
use Rattle.rb_agree.specs.declared.rules.Rule.{Rule}
use Rattle.rb_agree.specs.declared.rules.Rule.TheVariants.{Roots, Parts, Blocks, Values, Fields, Tests, Splits, Flattening, Holding}
use Rattle.rb_agree.specs.Answers.{Finds}
use Rattle.rb_agree.specs.inner.Lists.{EachOf}
use Rattle.rb_agree.specs.inner.Rules.{RuleIsReady, early_rules, late_rules, leaf_spots, leaves_spots, rule_spots, rules_spots, spots_of}
use Rattle.rb_agree.proofs.Lists.{each-first, each-none}
use Rattle.rb_agree.proofs.Finding.{found-first, found-later}

from_none : (k : ℕ) → 0 + k ≡ k
from_none k = omega arith

none_more : (n : ℕ) → n + 0 ≡ n
none_more n = omega arith

one_on : (n k : ℕ) → n + suc k ≡ n + 1 + k
one_on n k = omega arith

-- What holds at all of some places ---------------------------------------------------------------------------

module _ (p : Program) (layouts : List Layout) where
  abbrev All : List Spot → Type 0
  All ss = Checked p layouts ss None

  apart : (xs ys : List Spot) → All (xs ++ ys) → All xs × All ys
  apart [] ys h = (tt, h)
  apart (x ∷ xs) ys h = let rest = apart xs ys h.1 in ((h.0, rest.0), rest.1)

  at-leaf : (spots : ℕ → Leaf → List Spot) (n : ℕ) (ls : List Leaf) → All (by_leaves spots n ls) → (k : ℕ) (leaf : Leaf) → slice_get ls k ≡ Some leaf → All (spots (n + k) leaf)
  at-leaf spots n [] h k leaf e = absurd cc
  at-leaf spots n (l ∷ ls) h zero leaf e =
      subst (λ m. All (spots m leaf)) (sym (none_more n)) (subst (λ (x : Leaf). All (spots n x)) (same_Some l leaf e) (apart (spots n l) (by_leaves spots (n + 1) ls) h).0)
  at-leaf spots n (l ∷ ls) h (suc k) leaf e =
      subst (λ m. All (spots m leaf)) (sym (one_on n k)) (at-leaf spots (n + 1) ls (apart (spots n l) (by_leaves spots (n + 1) ls) h).1 k leaf e)

  at-type : (spots : ℕ → Layout → List Spot) (t : ℕ) (ls : List Layout) → All (by_types spots t ls) → (k : ℕ) (layout : Layout) → slice_get ls k ≡ Some layout → All (spots (t + k) layout)
  at-type spots t [] h k layout e = absurd cc
  at-type spots t (l ∷ ls) h zero layout e =
      subst (λ m. All (spots m layout)) (sym (none_more t)) (subst (λ (x : Layout). All (spots t x)) (same_Some l layout e) (apart (spots t l) (by_types spots (t + 1) ls) h).0)
  at-type spots t (l ∷ ls) h (suc k) layout e =
      subst (λ m. All (spots m layout)) (sym (one_on t k)) (at-type spots (t + 1) ls (apart (spots t l) (by_types spots (t + 1) ls) h).1 k layout e)

  at-shape : (t : ℕ) (ds : List DataDecl) → All (shape_spots p.layouts t ds) → (k : ℕ) → k < length ds → HasShape (decl_of p.layouts (t + k))
  at-shape t [] h k lt = absurd (omega (arith, lt))
  at-shape t (d ∷ ds) h zero lt = subst (λ m. HasShape (decl_of p.layouts m)) (sym (none_more t)) h.0
  at-shape t (d ∷ ds) h (suc k) lt = subst (λ m. HasShape (decl_of p.layouts m)) (sym (one_on t k)) (at-shape (t + 1) ds h.1 k (omega (arith, lt)))

  -- at a leaf, where the rule has no place at a type before it
  rule-at : (rule : Rule) → ((t : ℕ) (l : Layout) → spots_of p.layouts rule t l ≡ leaves_spots p.layouts rule t l) → All (rule_spots p.layouts layouts rule)
      → (t : ℕ) (layout : Layout) (n : ℕ) (leaf : Leaf) → layout_of layouts t ≡ Some layout → slice_get layout.leaves n ≡ Some leaf → All (leaf_spots p.layouts rule t layout n leaf)
  rule-at rule same h t layout n leaf is_layout is_leaf =
      let here : All (spots_of p.layouts rule t layout) = subst (λ m. All (spots_of p.layouts rule m layout)) (from_none t) (at-type (spots_of p.layouts rule) 0 layouts h t layout is_layout) in
      let leaves : All (leaves_spots p.layouts rule t layout) = subst (λ (ss : List Spot). All ss) (same t layout) here in
      subst (λ m. All (leaf_spots p.layouts rule t layout m leaf)) (from_none n) (at-leaf (leaf_spots p.layouts rule t layout) 0 layout.leaves leaves n leaf is_leaf)

-- Shapes ------------------------------------------------------------------------------------------------------

has-decl : (d : Option LayoutDecl) → HasShape d → (x : LayoutDecl) × (d ≡ Some x)
has-decl None h = absurd h
has-decl (Some x) h = (x, refl)

pub shapes-hold : (p : Program) (layouts : List Layout) → Finds p layouts (shape_spots p.layouts 0 p.types) None → A1 p
shapes-hold p layouts h = λ t lt. subst (λ m. HasShape (decl_of p.layouts m)) (from_none t) (at-shape p layouts 0 p.types h t lt)

pub have-layouts : (p : Program) → A1 p → HaveLayouts p
have-layouts p shapes = λ t lt. has-decl (decl_of p.layouts t) (shapes t lt)

-- what holds of all declared layouts holds of that of a type
declared-at : (q : LayoutDecl → Bool) (x : LayoutDecl) (ds : List LayoutDecl) (t : ℕ) (d : LayoutDecl) (b : Bool) → q x ≡ true → (decl_of ds t ≡ Some d → q d ≡ true)
    → (if b then Some x else decl_of ds t) ≡ Some d → q d ≡ true
declared-at q x ds t d true here rest e = ap q (sym (same_Some x d e)) ∙ here
declared-at q x ds t d false here rest e = rest e

declared : (q : LayoutDecl → Bool) (ds : List LayoutDecl) (t : ℕ) (d : LayoutDecl) → list_all q ds ≡ true → decl_of ds t ≡ Some d → q d ≡ true
declared q [] t d all e = absurd cc
declared q (x ∷ ds) t d all e =
    declared-at q x ds t d (x.ty == t) (and-left (q x) (list_all q ds) all) (declared q ds t d (and-right (q x) (list_all q ds) all)) e

short-shape : (p : Program) (t : ℕ) (d : LayoutDecl) → IsTyped p → decl_of p.layouts t ≡ Some d → length d.shape ≤ 8
short-shape p t d typed e =
    let numbered = declared (layout_is_numbered p.types) p.layouts t d typed.numbered.layouts e in
    let rest = and-right (nat_lt d.ty (length p.types)) (is_between 1 8 (length d.shape) && (list_all (provenance_is_numbered p.types) (provenances d.tree) && is_short_layout d.tree)) numbered in
    let between = and-left (is_between 1 8 (length d.shape)) (list_all (provenance_is_numbered p.types) (provenances d.tree) && is_short_layout d.tree) rest in
    leb-true (length d.shape) 8 (and-right (nat_le 1 (length d.shape)) (nat_le (length d.shape) 8) between)

of-shape : (d : LayoutDecl) (o : Option LayoutDecl) → o ≡ Some d → HasShape o → (i w : ℕ) → slice_get d.shape i ≡ Some w → w ≤ 64
of-shape d o is h i w e = (subst (λ (x : Option LayoutDecl). HasShape x) is h i w e).1

-- Leaves can be read --------------------------------------------------------------------------------------------

module _ (p : Program) (layouts : List Layout) (typed : IsTyped p) (shapes : A1 p) (order : AreInOrder p layouts) where
  abbrev Of-rule : Rule → List Spot
  Of-rule = rule_spots p.layouts layouts

  all-readable : Finds p layouts (rules_spots p.layouts layouts early_rules) None → EachLeaf layouts (λ t layout n leaf. IsReadable leaf)
  all-readable h t layout n leaf is_layout is_leaf =
      let roots = apart p layouts (Of-rule Roots) (rules_spots p.layouts layouts (Parts ∷ Blocks ∷ Values ∷ Fields ∷ [])) h in
      let parts = apart p layouts (Of-rule Parts) (rules_spots p.layouts layouts (Blocks ∷ Values ∷ Fields ∷ [])) roots.1 in
      let blocks = apart p layouts (Of-rule Blocks) (rules_spots p.layouts layouts (Values ∷ Fields ∷ [])) parts.1 in
      let root = (rule-at p layouts Roots (λ u l. refl) roots.0 t layout n leaf is_layout is_leaf).0 in
      let block = (rule-at p layouts Blocks (λ u l. refl) blocks.0 t layout n leaf is_layout is_leaf).0 in
      let within : t < length layouts = slice_get_within layouts t layout is_layout in
      let lt : t < length p.types = subst (λ m. t < m) order.count within in
      let decl = have-layouts p shapes t lt in
      let same : layout ≡ flat_layout p decl.0 = same_Some layout (flat_layout p decl.0) (sym is_layout ∙ order.each t decl.0 lt decl.1) in
      let shape : layout.shape ≡ decl.0.shape = ap (λ (l : Layout). l.shape) same in
      let few : length decl.0.shape ≤ 8 = short-shape p t decl.0 typed decl.1 in
      let most : length layout.shape ≤ 8 = subst (λ (ws : List ℕ). length ws ≤ 8) (sym shape) few in
      readable layout.shape leaf (omega (arith, most))
      (λ i w e. of-shape decl.0 (decl_of p.layouts t) decl.1 (shapes t lt) i w (ap (λ (ws : List ℕ). slice_get ws i) (sym shape) ∙ e)) root block

  pub all-ready : Finds p layouts (rules_spots p.layouts layouts early_rules) None → EachOf (RuleIsReady layouts) late_rules
  all-ready h =
      each-first (RuleIsReady layouts) Tests (Splits ∷ Flattening ∷ Holding ∷ []) (all-readable h)
      (each-first (RuleIsReady layouts) Splits (Flattening ∷ Holding ∷ []) tt
      (each-first (RuleIsReady layouts) Flattening (Holding ∷ []) tt
      (each-first (RuleIsReady layouts) Holding [] tt (each-none (RuleIsReady layouts)))))

pub early-ready : (layouts : List Layout) → EachOf (RuleIsReady layouts) early_rules
early-ready layouts =
    each-first (RuleIsReady layouts) Roots (Parts ∷ Blocks ∷ Values ∷ Fields ∷ []) tt
    (each-first (RuleIsReady layouts) Parts (Blocks ∷ Values ∷ Fields ∷ []) tt
    (each-first (RuleIsReady layouts) Blocks (Values ∷ Fields ∷ []) tt
    (each-first (RuleIsReady layouts) Values (Fields ∷ []) tt
    (each-first (RuleIsReady layouts) Fields [] tt (each-none (RuleIsReady layouts))))))

-- All places ----------------------------------------------------------------------------------------------------

no-leaves : (n : ℕ) (ls : List Leaf) → by_leaves (λ m leaf. []) n ls ≡ []
no-leaves n [] = refl
no-leaves n (l ∷ ls) = no-leaves (n + 1) ls

same-types : (f g : ℕ → Layout → List Spot) → ((t : ℕ) (l : Layout) → f t l ≡ g t l) → (t : ℕ) (ls : List Layout) → by_types f t ls ≡ by_types g t ls
same-types f g same t [] = refl
same-types f g same t (l ∷ ls) = ap (λ (ss : List Spot). ss ++ by_types f (t + 1) ls) (same t l) ∙ ap (λ (ss : List Spot). g t l ++ ss) (same-types f g same (t + 1) ls)

in-row : (a b c d e f g h i j : List Spot) → a ++ b ++ c ++ d ++ e ++ f ++ g ++ h ++ i ++ j ≡ a ++ (b ++ (c ++ (d ++ (e ++ (f ++ (g ++ (h ++ (i ++ (j ++ [])))))))))
in-row a b c d e f g h i j =
    append_assoc (a ++ b ++ c ++ d ++ e ++ f ++ g ++ h) i j
    ∙ append_assoc (a ++ b ++ c ++ d ++ e ++ f ++ g) h (i ++ j)
    ∙ append_assoc (a ++ b ++ c ++ d ++ e ++ f) g (h ++ (i ++ j))
    ∙ append_assoc (a ++ b ++ c ++ d ++ e) f (g ++ (h ++ (i ++ j)))
    ∙ append_assoc (a ++ b ++ c ++ d) e (f ++ (g ++ (h ++ (i ++ j))))
    ∙ append_assoc (a ++ b ++ c) d (e ++ (f ++ (g ++ (h ++ (i ++ j)))))
    ∙ append_assoc (a ++ b) c (d ++ (e ++ (f ++ (g ++ (h ++ (i ++ j))))))
    ∙ append_assoc a b (c ++ (d ++ (e ++ (f ++ (g ++ (h ++ (i ++ j)))))))
    ∙ ap (λ (ss : List Spot). a ++ (b ++ (c ++ (d ++ (e ++ (f ++ (g ++ (h ++ (i ++ ss))))))))) (sym (append-nil j))

module _ (p : Program) (layouts : List Layout) where
  abbrev pub later_spots : List Spot
  later_spots = rules_spots p.layouts layouts early_rules ++ rules_spots p.layouts layouts late_rules

  abbrev R : Rule → List Spot
  R = rule_spots p.layouts layouts

  splits-only : R Splits ≡ by_types (λ t layout. S.Splits t layout ∷ []) 0 layouts
  splits-only = same-types (spots_of p.layouts Splits) (λ t layout. S.Splits t layout ∷ []) (λ t l. ap (λ (ss : List Spot). S.Splits t l ∷ ss) (no-leaves 0 l.leaves)) 0 layouts

  holding-only : R Holding ≡ by_types (λ t layout. S.Holding t ∷ []) 0 layouts
  holding-only = same-types (spots_of p.layouts Holding) (λ t layout. S.Holding t ∷ []) (λ t l. ap (λ (ss : List Spot). S.Holding t ∷ ss) (no-leaves 0 l.leaves)) 0 layouts

  pub whole : all_spots p layouts ≡ shape_spots p.layouts 0 p.types ++ later_spots
  whole =
      let shapes = shape_spots p.layouts 0 p.types in
      let before : List Spot = shapes ++ R Roots ++ R Parts ++ R Blocks ++ R Values ++ R Fields ++ R Tests in
      ap (λ (ss : List Spot). before ++ ss ++ R Flattening ++ by_types (λ t layout. S.Holding t ∷ []) 0 layouts) (sym splits-only)
      ∙ ap (λ (ss : List Spot). before ++ R Splits ++ R Flattening ++ ss) (sym holding-only)
      ∙ in-row shapes (R Roots) (R Parts) (R Blocks) (R Values) (R Fields) (R Tests) (R Splits) (R Flattening) (R Holding)
      ∙ ap (λ (ss : List Spot). shapes ++ ss) (flat_map-append R early_rules late_rules)

  pub later-found : (r : Option Refused) → Finds p layouts (shape_spots p.layouts 0 p.types) None → Finds p layouts later_spots r → Finds p layouts (all_spots p layouts) r
  later-found r shapes found = subst (λ (ss : List Spot). Finds p layouts ss r) (sym whole) (found-later p layouts (shape_spots p.layouts 0 p.types) later_spots r shapes found)

  shape-found : (r : Refused) → Finds p layouts (shape_spots p.layouts 0 p.types) (Some r) → Finds p layouts (all_spots p layouts) (Some r)
  shape-found r found = subst (λ (ss : List Spot). Finds p layouts ss (Some r)) (sym whole) (found-first p layouts (shape_spots p.layouts 0 p.types) later_spots r found)

module _ (p : Program) (layouts : List Layout) where
  abbrev EarlyFinds : Option Refused → Type 0
  EarlyFinds r = Finds p layouts (rules_spots p.layouts layouts early_rules) r

  pub early-found : (r : Option Refused) (refused : Refused) → EarlyFinds r → r ≡ Some refused → Finds p layouts (later_spots p layouts) (Some refused)
  early-found r refused h some =
      found-first p layouts (rules_spots p.layouts layouts early_rules) (rules_spots p.layouts layouts late_rules) refused (subst (λ (x : Option Refused). EarlyFinds x) some h)

  pub late-found : {E : Type 0} (r : Option Refused) → EarlyFinds r → r ≡ None → (res : Result (Option Refused) E) → IfOk res (Finds p layouts (rules_spots p.layouts layouts late_rules))
      → IfOk res (Finds p layouts (later_spots p layouts))
  late-found r h none res found = IfOk-weaker res (Finds p layouts (rules_spots p.layouts layouts late_rules)) (Finds p layouts (later_spots p layouts)) (λ x k.
      found-later p layouts (rules_spots p.layouts layouts early_rules) (rules_spots p.layouts layouts late_rules) x (subst (λ (y : Option Refused). EarlyFinds y) none h) k) found

  pub ready-late : (r : Option Refused) → IsTyped p → A1 p → AreInOrder p layouts → EarlyFinds r → r ≡ None → EachOf (RuleIsReady layouts) late_rules
  ready-late r typed shapes order h none = all-ready p layouts typed shapes order (subst (λ (x : Option Refused). EarlyFinds x) none h)

abbrev pub ShapesFind : Program → Option Refused → Type 0
ShapesFind p found = (layouts : List Layout) → Finds p layouts (shape_spots p.layouts 0 p.types) found

shapes-as : (q p : Program) (r s : Option Refused) → q ≡ p → r ≡ s → ShapesFind q r → ShapesFind p s
shapes-as q p r s same is h = subst (λ (x : Program). ShapesFind x s) same (subst (λ (y : Option Refused). ShapesFind q y) is h)

pub have-all : (q p : Program) (r : Option Refused) → q ≡ p → r ≡ None → ShapesFind q r → HaveLayouts p
have-all q p r same none h = have-layouts p (shapes-hold p [] (shapes-as q p r None same none h []))

pub shapes-all : (q : Program) (r : Option Refused) → r ≡ None → ShapesFind q r → A1 q
shapes-all q r none h = shapes-hold q [] (shapes-as q q r None refl none h [])

pub refused-shape : (q p : Program) (r : Option Refused) (refused : Refused) → q ≡ p → r ≡ Some refused → ShapesFind q r → IsRefusedBy p (flat_layouts p) refused
refused-shape q p r refused same some h = shape-found p (flat_layouts p) refused (shapes-as q p r (Some refused) same some h (flat_layouts p))

later-as : (q p : Program) (ls ms : List Layout) (r s : Option Refused) → q ≡ p → ls ≡ ms → r ≡ s → Finds q ls (later_spots q ls) r → Finds p ms (later_spots p ms) s
later-as q p ls ms r s same is_layouts is h =
    subst (λ (x : Program). Finds x ms (later_spots x ms) s) same (subst (λ (xs : List Layout). Finds q xs (later_spots q xs) s) is_layouts (subst (λ (y : Option Refused). Finds q ls (later_spots q ls) y) is h))

pub refused-later : (q p : Program) (ls : List Layout) (r s : Option Refused) (refused : Refused) → q ≡ p → ls ≡ flat_layouts p → r ≡ None → s ≡ Some refused → ShapesFind q r
    → Finds q ls (later_spots q ls) s → IsRefusedBy p (flat_layouts p) refused
refused-later q p ls r s refused same flat none some shapes h =
    later-found p (flat_layouts p) (Some refused) (shapes-as q p r None same none shapes (flat_layouts p)) (later-as q p ls (flat_layouts p) s (Some refused) same flat some h)

pub all-agreed : (q p : Program) (ls layouts : List Layout) (r s : Option Refused) → q ≡ p → ls ≡ flat_layouts p → layouts ≡ flat_layouts p → r ≡ None → s ≡ None → ShapesFind q r
    → Finds q ls (later_spots q ls) s → AreAgreed p layouts
all-agreed q p ls layouts r s same flat is none none_too shapes h = (
  is,
  (places_are_all p (flat_layouts p)).0 (later-found p (flat_layouts p) None (shapes-as q p r None same none shapes (flat_layouts p)) (later-as q p ls (flat_layouts p) s None same flat none_too h)),
)

pub in-order-as : (q p : Program) (ls ms : List Layout) → q ≡ p → ls ≡ ms → AreInOrder p ms → AreInOrder q ls
in-order-as q p ls ms same is order = subst (λ (x : Program). AreInOrder x ls) (sym same) (subst (λ (xs : List Layout). AreInOrder p xs) (sym is) order)
