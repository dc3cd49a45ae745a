-- The places of rules, and what is found in them.
use Rattle.std.proofs.Common.{◌≡◌, ℕ, ◌+◌, ◌<◌, ◌≤◌, List, [], ◌∷◌, ◌++◌, length, drop, get_or, add-one, Bool, Option, Some, None, Result, IfOk, refl, sym, ap, subst, ◌∙◌}
use Rattle.std.specs.Prelude.{slice_get, MatchOption}
use Rattle.std.specs.List.{flat_map}
use Rattle.std.proofs.lemmas.Bool.{lt-ltb}
use Rattle.std.proofs.lemmas.List.{drop_all, length-map}
use Rattle.std.proofs.lemmas.Option.{slice_get_within}
use Rattle.std.proofs.lemmas.Result.{IfOk-weaker}
use Rattle.rb_core.specs.declared.program.Program.{Program}
use Rattle.rb_core.specs.declared.types.DataDecl.{DataDecl}
use Rattle.rb_core.specs.declared.types.Ty.TheVariants.{Named}
use Rattle.rb_core.specs.declared.layout_decl.LayoutDecl.{LayoutDecl}
use Rattle.rb_core.specs.TypedPrograms.{IsTyped}
use Rattle.rb_layout.specs.declared.layout.Layout.{Layout}
use Rattle.rb_layout.specs.declared.layout.Leaf.{Leaf}
use Rattle.rb_layout.specs.declared.evidence.Why.{Why}
use Rattle.rb_layout.specs.declared.evidence.Refused.{Refused}
use Rattle.rb_layout.specs.Spots.{Spot, Checked, SpotFails, SpotHolds, place_of_spot, by_leaves, by_types, part_spots}
use Rattle.rb_layout.specs.Spots as S
use Rattle.rb_layout.specs.Items.{Item, items_of}
use Rattle.rb_layout.specs.Positions.{layout_of, open_positions}
use Rattle.rb_layout.specs.A3.{FailsItem, ItemFits}
use Rattle.rb_layout.specs.A5.{IsApart}
use Rattle.rb_layout.specs.A7.{MeetsAll}
use Rattle.rb_layout.proofs.Walks.{drop_from}
use Rattle.rb_matrix.specs.Search.{AreInhabited, IsTypeIn}
use Rattle.rb_agree.specs.declared.items.Item as D
use Rattle.rb_agree.specs.declared.rules.Rule.{Rule}
use Rattle.rb_agree.specs.declared.rules.Rule.TheVariants.{Parts, Tests, Values}
use Rattle.rb_agree.specs.declared.rules.Related.{Related}
use Rattle.rb_agree.specs.Written.{shown_item, shown_items}
use Rattle.rb_agree.specs.Answers.{Finds}
use Rattle.rb_agree.specs.inner.Passing.{PassWhereOff}
use Rattle.rb_agree.specs.inner.Sharing.{ApartWhereOff}
use Rattle.rb_agree.specs.inner.Rules.{HoldsWhereOff, IsKnown, leaf_spots, leaves_spots, refusal, rule_number, rule_spots, rules_spots, spots_of, type_spots}
use Rattle.rb_agree.proofs.Lists.{map-at, flat-end}
use Rattle.rb_agree.proofs.Finding.{Passes, pass-on, pass-found, one-place, ends, found-first, found-later, leaves-next, leaves-end, types-next, types-end}

-- What a typed program gives ------------------------------------------------------------------------------

pub inhabited : (p : Program) (types : List DataDecl) → types ≡ p.types → IsTyped p → AreInhabited types
inhabited p types is typed = subst (λ (ts : List DataDecl). AreInhabited ts) (sym is) (record { numbered = typed.numbered.types; values = typed.values })

pub type-in : (p : Program) (layouts : List Layout) (related : Related) (types : List DataDecl) (t : ℕ) (layout : Layout) → types ≡ p.types → IsKnown p layouts related → layout_of layouts t ≡ Some layout
    → IsTypeIn types (Named t)
type-in p layouts related types t layout is known at =
    let within : t < length layouts = slice_get_within layouts t layout at in
    let here : t < length p.types = subst (λ n. t < n) known.count within in
    subst (λ (ts : List DataDecl). IsTypeIn ts (Named t)) (sym is) (lt-ltb t (length p.types) here)

-- Marks -----------------------------------------------------------------------------------------------------

module _ (p : Program) (layouts : List Layout) (t : ℕ) (layout : Layout) (rule : Rule) where
  pub holds-nowhere : (marks : List Bool) → marks ≡ [] → HoldsWhereOff p layouts rule t layout marks
  holds-nowhere marks none = λ n leaf off at. absurd (cc (ap (λ (ms : List Bool). slice_get ms n) (sym none) ∙ off))

  pub holds-values : {E : Type 0} (types : List DataDecl) (r : Result (List Bool) E) → rule ≡ Values → types ≡ p.types → IfOk r (ApartWhereOff types t layout.leaves) → IfOk r (HoldsWhereOff p layouts rule t layout)
  holds-values types r is same h = IfOk-weaker r (ApartWhereOff types t layout.leaves) (HoldsWhereOff p layouts rule t layout) (λ marks apart n leaf off at.
      subst (λ (x : Rule). Checked p layouts (leaf_spots p.layouts x t layout n leaf) None) (sym is)
      (subst (λ (ts : List DataDecl). IsApart ts t layout n leaf) same (apart n leaf off at), tt)) h

  pub holds-tests : {E : Type 0} (types : List DataDecl) (r : Result (List Bool) E) → rule ≡ Tests → types ≡ p.types → IfOk r (PassWhereOff types layouts layout) → IfOk r (HoldsWhereOff p layouts rule t layout)
  holds-tests types r is same h = IfOk-weaker r (PassWhereOff types layouts layout) (HoldsWhereOff p layouts rule t layout) (λ marks pass n leaf off at.
      subst (λ (x : Rule). Checked p layouts (leaf_spots p.layouts x t layout n leaf) None) (sym is)
      (subst (λ (ts : List DataDecl). MeetsAll ts layouts layout.tree n leaf) same (pass n leaf off at), tt)) h

-- Items -----------------------------------------------------------------------------------------------------

module _ (p : Program) (leaf : Leaf) (items : List D.Item) where
  abbrev PartsFrom : ℕ → ℕ → ℕ → List Spot
  PartsFrom t n i = part_spots t n leaf i (drop i (shown_items items))

  abbrev AllParts : ℕ → ℕ → List Spot
  AllParts t n = part_spots t n leaf 0 (shown_items items)

  -- what is found in the items from one on is found in all
  abbrev pub ItemsPass : ℕ → Type 0
  ItemsPass i = (layouts : List Layout) (t n : ℕ) → Passes p layouts (PartsFrom t n i) (AllParts t n)

  item-next : (t n i : ℕ) (item : D.Item) → slice_get items i ≡ Some item → PartsFrom t n i ≡ (S.Parts t n i leaf (shown_item item) ∷ []) ++ PartsFrom t n (i + 1)
  item-next t n i item e =
      ap (λ (xs : List Item). part_spots t n leaf i xs) (drop_from (shown_items items) i (shown_item item) (map-at shown_item items i item e))
      ∙ ap (λ m. S.Parts t n i leaf (shown_item item) ∷ part_spots t n leaf (i + 1) (drop m (shown_items items))) (sym (add-one i))

  abbrev OfItem : List DataDecl → List LayoutDecl → ℕ → D.Item → Option Why → Type 0
  OfItem types decls i item r =
      MatchOption r (ItemFits decls (open_positions types leaf.prov) (shown_item item)) (FailsItem decls (open_positions types leaf.prov) i (shown_item item))

  of-item : (types : List DataDecl) (decls : List LayoutDecl) (i m : ℕ) (item : D.Item) (r s : Option Why) → types ≡ p.types → decls ≡ p.layouts → m ≡ i → r ≡ s
      → OfItem types decls m item r → OfItem p.types p.layouts i item s
  of-item types decls i m item r s is_types is_decls is_i is_r h =
      subst (λ (x : Option Why). OfItem p.types p.layouts i item x) is_r (subst (λ k. OfItem p.types p.layouts k item r) is_i
      (subst (λ (ds : List LayoutDecl). OfItem p.types ds m item r) is_decls (subst (λ (ts : List DataDecl). OfItem ts decls m item r) is_types h)))

  at-one : (layouts : List Layout) (t n i : ℕ) (item : D.Item) → slice_get items i ≡ Some item → Passes p layouts (PartsFrom t n i) (AllParts t n)
      → Passes p layouts ((S.Parts t n i leaf (shown_item item) ∷ []) ++ PartsFrom t n (i + 1)) (AllParts t n)
  at-one layouts t n i item e pass = subst (λ (ss : List Spot). Passes p layouts ss (AllParts t n)) (item-next t n i item e) pass

  pub item-passes : (types : List DataDecl) (decls : List LayoutDecl) (i m : ℕ) (item : D.Item) (r : Option Why) → types ≡ p.types → decls ≡ p.layouts → m ≡ i → r ≡ None
      → slice_get items i ≡ Some item → OfItem types decls m item r → ItemsPass i → ItemsPass (i + 1)
  item-passes types decls i m item r is_types is_decls is_i is_r e h pass = λ layouts t n.
      pass-on p layouts (S.Parts t n i leaf (shown_item item) ∷ []) (PartsFrom t n (i + 1)) (AllParts t n) (at-one layouts t n i item e (pass layouts t n))
      (one-place p layouts (S.Parts t n i leaf (shown_item item)) 3 t (Some n) None refl (of-item types decls i m item r None is_types is_decls is_i is_r h))

  pub item-fails : (types : List DataDecl) (decls : List LayoutDecl) (i m : ℕ) (item : D.Item) (r : Option Why) (why : Why) → types ≡ p.types → decls ≡ p.layouts → m ≡ i → r ≡ Some why
      → slice_get items i ≡ Some item → OfItem types decls m item r → ItemsPass i → (layouts : List Layout) (t n : ℕ) → Finds p layouts (AllParts t n) (refusal 3 t (Some n) (Some why))
  item-fails types decls i m item r why is_types is_decls is_i is_r e h pass = λ layouts t n.
      pass-found p layouts (S.Parts t n i leaf (shown_item item) ∷ []) (PartsFrom t n (i + 1)) (AllParts t n) (record { rule = 3; ty = t; leaf = Some n; why = why })
      (at-one layouts t n i item e (pass layouts t n))
      (one-place p layouts (S.Parts t n i leaf (shown_item item)) 3 t (Some n) (Some why) refl (of-item types decls i m item r (Some why) is_types is_decls is_i is_r h))

  pub items-end : (i : ℕ) → length items ≤ i → ItemsPass i → (layouts : List Layout) (t n : ℕ) → Finds p layouts (AllParts t n) None
  items-end i le pass = λ layouts t n.
      let most : length (shown_items items) ≤ i = subst (λ k. k ≤ i) (sym (length-map items shown_item)) le in
      ends p layouts (PartsFrom t n i) (AllParts t n) (pass layouts t n) (ap (λ (xs : List Item). part_spots t n leaf i xs) (drop_all i (shown_items items) most))

-- One place -------------------------------------------------------------------------------------------------

module _ (p : Program) (layouts : List Layout) where
  abbrev Of : Spot → Option Why → Type 0
  Of s found = MatchOption found (SpotHolds p layouts s) (SpotFails p layouts s)

  module _ (t : ℕ) (layout : Layout) where
    abbrev TypeFinds : Rule → Option Why → Type 0
    TypeFinds rule found = Finds p layouts (type_spots rule t layout) (refusal (rule_number rule) t None found)

    pub type-one : {E : Type 0} (rule r : Rule) (s : Spot) → rule ≡ r → type_spots r t layout ≡ s ∷ [] → record { rule = rule_number r; ty = t; leaf = None } ≡ place_of_spot s
        → (res : Result (Option Why) E) → IfOk res (Of s) → IfOk res (TypeFinds rule)
    type-one rule r s is spots place res h = IfOk-weaker res (Of s) (TypeFinds rule) (λ found k.
        subst (λ (x : Rule). TypeFinds x found) (sym is)
        (subst (λ (ss : List Spot). Finds p layouts ss (refusal (rule_number r) t None found)) (sym spots) (one-place p layouts s (rule_number r) t None found place k))) h

    pub type-none : (rule r : Rule) → rule ≡ r → type_spots r t layout ≡ [] → TypeFinds rule None
    type-none rule r is spots = subst (λ (x : Rule). TypeFinds x None) (sym is) (subst (λ (ss : List Spot). Finds p layouts ss None) (sym spots) tt)

    module _ (n : ℕ) (leaf : Leaf) where
      abbrev LeafFinds : Rule → Option Why → Type 0
      LeafFinds rule found = Finds p layouts (leaf_spots p.layouts rule t layout n leaf) (refusal (rule_number rule) t (Some n) found)

      pub leaf-at : (rule r : Rule) (s : Spot) → rule ≡ r → leaf_spots p.layouts r t layout n leaf ≡ s ∷ [] → record { rule = rule_number r; ty = t; leaf = Some n } ≡ place_of_spot s
          → (found : Option Why) → Of s found → LeafFinds rule found
      leaf-at rule r s is spots place found k =
          subst (λ (x : Rule). LeafFinds x found) (sym is)
          (subst (λ (ss : List Spot). Finds p layouts ss (refusal (rule_number r) t (Some n) found)) (sym spots) (one-place p layouts s (rule_number r) t (Some n) found place k))

      pub leaf-one : {E : Type 0} (rule r : Rule) (s : Spot) → rule ≡ r → leaf_spots p.layouts r t layout n leaf ≡ s ∷ [] → record { rule = rule_number r; ty = t; leaf = Some n } ≡ place_of_spot s
          → (res : Result (Option Why) E) → IfOk res (Of s) → IfOk res (LeafFinds rule)
      leaf-one rule r s is spots place res h = IfOk-weaker res (Of s) (LeafFinds rule) (λ found k. leaf-at rule r s is spots place found k) h

      pub leaf-none : (rule r : Rule) → rule ≡ r → leaf_spots p.layouts r t layout n leaf ≡ [] → LeafFinds rule None
      leaf-none rule r is spots = subst (λ (x : Rule). LeafFinds x None) (sym is) (subst (λ (ss : List Spot). Finds p layouts ss None) (sym spots) tt)

      abbrev PartsFound : List Item → Option Why → Type 0
      PartsFound items found = (ls : List Layout) (u m : ℕ) → Finds p ls (part_spots u m leaf 0 items) (refusal 3 u (Some m) found)

      pub leaf-parts : {E : Type 0} (rule : Rule) (items : List Item) → rule ≡ Parts → items ≡ items_of p.layouts t n → (res : Result (Option Why) E) → IfOk res (PartsFound items) → IfOk res (LeafFinds rule)
      leaf-parts rule items is same res h = IfOk-weaker res (PartsFound items) (LeafFinds rule) (λ found k.
          subst (λ (x : Rule). LeafFinds x found) (sym is)
          (subst (λ (xs : List Item). Finds p layouts (part_spots t n leaf 0 xs) (refusal 3 t (Some n) found)) same (k layouts t n))) h

    -- Leaves one after the other
    module _ (rule : Rule) where
      abbrev Each : ℕ → Leaf → List Spot
      Each = leaf_spots p.layouts rule t layout

      abbrev pub LeavesPass : ℕ → Type 0
      LeavesPass i = Passes p layouts (by_leaves Each i (drop i layout.leaves)) (leaves_spots p.layouts rule t layout)

      leaves-on : (i : ℕ) (leaf : Leaf) → i < length layout.leaves → leaf ≡ get_or layout.leaves i leaf → LeavesPass i
          → Passes p layouts (Each i leaf ++ by_leaves Each (i + 1) (drop (i + 1) layout.leaves)) (leaves_spots p.layouts rule t layout)
      leaves-on i leaf lt is pass =
          subst (λ (ss : List Spot). Passes p layouts ss (leaves_spots p.layouts rule t layout)) (leaves-next p layouts Each layout.leaves i leaf lt is) pass

      pub leaf-passes : (leaves : List Leaf) (i : ℕ) (leaf : Leaf) (r : Option Why) → leaves ≡ layout.leaves → i < length leaves → leaf ≡ get_or leaves i leaf → LeafFinds i leaf rule r → r ≡ None
          → LeavesPass i → LeavesPass (i + 1)
      leaf-passes leaves i leaf r same lt is h none pass =
          pass-on p layouts (Each i leaf) (by_leaves Each (i + 1) (drop (i + 1) layout.leaves)) (leaves_spots p.layouts rule t layout)
          (leaves-on i leaf (subst (λ (ls : List Leaf). i < length ls) same lt) (subst (λ (ls : List Leaf). leaf ≡ get_or ls i leaf) same is) pass)
          (subst (λ (x : Option Why). LeafFinds i leaf rule x) none h)

      pub leaf-fails : (leaves : List Leaf) (i m number : ℕ) (leaf : Leaf) (r : Option Why) (why : Why) → leaves ≡ layout.leaves → i < length leaves → leaf ≡ get_or leaves i leaf → m ≡ i → number ≡ rule_number rule
          → LeafFinds i leaf rule r → r ≡ Some why → LeavesPass i → Finds p layouts (leaves_spots p.layouts rule t layout) (Some (record { rule = number; ty = t; leaf = Some m; why = why }))
      leaf-fails leaves i m number leaf r why same lt is at num h some pass =
          subst (λ k. Finds p layouts (leaves_spots p.layouts rule t layout) (Some (record { rule = k; ty = t; leaf = Some m; why = why }))) (sym num)
          (subst (λ k. Finds p layouts (leaves_spots p.layouts rule t layout) (Some (record { rule = rule_number rule; ty = t; leaf = Some k; why = why }))) (sym at)
          (pass-found p layouts (Each i leaf) (by_leaves Each (i + 1) (drop (i + 1) layout.leaves)) (leaves_spots p.layouts rule t layout) (record { rule = rule_number rule; ty = t; leaf = Some i; why = why })
          (leaves-on i leaf (subst (λ (ls : List Leaf). i < length ls) same lt) (subst (λ (ls : List Leaf). leaf ≡ get_or ls i leaf) same is) pass)
          (subst (λ (x : Option Why). LeafFinds i leaf rule x) some h)))

      pub leaves-done : (leaves : List Leaf) (i : ℕ) → leaves ≡ layout.leaves → length leaves ≤ i → LeavesPass i → Finds p layouts (leaves_spots p.layouts rule t layout) None
      leaves-done leaves i same le pass =
          ends p layouts (by_leaves Each i (drop i layout.leaves)) (leaves_spots p.layouts rule t layout) pass
          (leaves-end p layouts Each layout.leaves i (subst (λ (ls : List Leaf). length ls ≤ i) same le))

      -- A type's own place, and its leaves
      pub type-fails : (number : ℕ) (r : Option Why) (why : Why) → number ≡ rule_number rule → TypeFinds rule r → r ≡ Some why
          → Finds p layouts (spots_of p.layouts rule t layout) (Some (record { rule = number; ty = t; leaf = None; why = why }))
      type-fails number r why num h some =
          subst (λ k. Finds p layouts (spots_of p.layouts rule t layout) (Some (record { rule = k; ty = t; leaf = None; why = why }))) (sym num)
          (found-first p layouts (type_spots rule t layout) (leaves_spots p.layouts rule t layout) (record { rule = rule_number rule; ty = t; leaf = None; why = why })
          (subst (λ (x : Option Why). TypeFinds rule x) some h))

      pub type-passes : {E : Type 0} (r : Option Why) → TypeFinds rule r → r ≡ None → (res : Result (Option Refused) E) → IfOk res (Finds p layouts (leaves_spots p.layouts rule t layout))
          → IfOk res (Finds p layouts (spots_of p.layouts rule t layout))
      type-passes r h none res found = IfOk-weaker res (Finds p layouts (leaves_spots p.layouts rule t layout)) (Finds p layouts (spots_of p.layouts rule t layout)) (λ x k.
          found-later p layouts (type_spots rule t layout) (leaves_spots p.layouts rule t layout) x (subst (λ (y : Option Why). TypeFinds rule y) none h) k) found

  -- Types one after the other
  module _ (rule : Rule) where
    abbrev Whole : List Spot
    Whole = rule_spots p.layouts layouts rule

    abbrev pub TypesPass : ℕ → Type 0
    TypesPass i = Passes p layouts (by_types (spots_of p.layouts rule) i (drop i layouts)) Whole

    types-on : (i : ℕ) (layout : Layout) → i < length layouts → layout ≡ get_or layouts i layout → TypesPass i
        → Passes p layouts (spots_of p.layouts rule i layout ++ by_types (spots_of p.layouts rule) (i + 1) (drop (i + 1) layouts)) Whole
    types-on i layout lt is pass = subst (λ (ss : List Spot). Passes p layouts ss Whole) (types-next p layouts (spots_of p.layouts rule) layouts i layout lt is) pass

    abbrev OfType : ℕ → Layout → Option Refused → Type 0
    OfType t layout r = Finds p layouts (spots_of p.layouts rule t layout) r

    pub layout-passes : (i t : ℕ) (layout : Layout) (r : Option Refused) → i < length layouts → layout ≡ get_or layouts i layout → t ≡ i → OfType t layout r → r ≡ None → TypesPass i → TypesPass (i + 1)
    layout-passes i t layout r lt is at h none pass =
        pass-on p layouts (spots_of p.layouts rule i layout) (by_types (spots_of p.layouts rule) (i + 1) (drop (i + 1) layouts)) Whole (types-on i layout lt is pass)
        (subst (λ k. OfType k layout None) at (subst (λ (x : Option Refused). OfType t layout x) none h))

    pub layout-fails : (i t : ℕ) (layout : Layout) (r : Option Refused) (refused : Refused) → i < length layouts → layout ≡ get_or layouts i layout → t ≡ i → OfType t layout r → r ≡ Some refused → TypesPass i
        → Finds p layouts Whole (Some refused)
    layout-fails i t layout r refused lt is at h some pass =
        pass-found p layouts (spots_of p.layouts rule i layout) (by_types (spots_of p.layouts rule) (i + 1) (drop (i + 1) layouts)) Whole refused (types-on i layout lt is pass)
        (subst (λ k. OfType k layout (Some refused)) at (subst (λ (x : Option Refused). OfType t layout x) some h))

    pub types-done : (i : ℕ) → length layouts ≤ i → TypesPass i → Finds p layouts Whole None
    types-done i le pass = ends p layouts (by_types (spots_of p.layouts rule) i (drop i layouts)) Whole pass (types-end p layouts (spots_of p.layouts rule) layouts i le)

  -- Rules one after the other
  abbrev Of-rule : Rule → List Spot
  Of-rule = rule_spots p.layouts layouts

  abbrev pub RulesPass : List Rule → ℕ → Type 0
  RulesPass rules i = Passes p layouts (flat_map Of-rule (drop i rules)) (rules_spots p.layouts layouts rules)

  module _ (rules : List Rule) (i : ℕ) (rule : Rule) (is : slice_get rules i ≡ Some rule) (r : Option Refused) (h : Finds p layouts (rule_spots p.layouts layouts rule) r) (pass : RulesPass rules i) where
    next : flat_map Of-rule (drop i rules) ≡ Of-rule rule ++ flat_map Of-rule (drop (i + 1) rules)
    next = ap (λ (rs : List Rule). flat_map Of-rule rs) (drop_from rules i rule is) ∙ ap (λ m. Of-rule rule ++ flat_map Of-rule (drop m rules)) (sym (add-one i))

    rules-on : Passes p layouts (Of-rule rule ++ flat_map Of-rule (drop (i + 1) rules)) (rules_spots p.layouts layouts rules)
    rules-on = subst (λ (ss : List Spot). Passes p layouts ss (rules_spots p.layouts layouts rules)) next pass

    pub rule-passes : r ≡ None → RulesPass rules (i + 1)
    rule-passes none =
        pass-on p layouts (Of-rule rule) (flat_map Of-rule (drop (i + 1) rules)) (rules_spots p.layouts layouts rules) rules-on (subst (λ (x : Option Refused). Finds p layouts (Of-rule rule) x) none h)

    pub rule-fails : (refused : Refused) → r ≡ Some refused → Finds p layouts (rules_spots p.layouts layouts rules) (Some refused)
    rule-fails refused some =
        pass-found p layouts (Of-rule rule) (flat_map Of-rule (drop (i + 1) rules)) (rules_spots p.layouts layouts rules) refused rules-on (subst (λ (x : Option Refused). Finds p layouts (Of-rule rule) x) some h)

  pub rules-done : (rules : List Rule) (i : ℕ) → length rules ≤ i → RulesPass rules i → Finds p layouts (rules_spots p.layouts layouts rules) None
  rules-done rules i le pass = ends p layouts (flat_map Of-rule (drop i rules)) (rules_spots p.layouts layouts rules) pass (flat-end Of-rule rules i le)
