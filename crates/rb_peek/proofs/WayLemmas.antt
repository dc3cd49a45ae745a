-- Walks along a path, step by step.
use Rattle.std.proofs.Common.{◌≡◌, ◌⊎◌, inl, inr, ℕ, zero, suc, ◌+◌, ◌<◌, ◌≤◌, ◌++◌, true, nat_lt, List, [], ◌∷◌, length, map, Option, Some, None, Result, Ok, Err, sym, subst, ap, ◌∙◌, arith}
use Rattle.std.specs.Prelude.{slice_get}
use Rattle.std.proofs.lemmas.Grind.{common_steps}
use Rattle.std.proofs.lemmas.Option.{same_Some}
use Rattle.rb_core.specs.declared.pattern.Pat.{Pat, out-Pat}
use Rattle.rb_core.specs.declared.pattern.Pat.TheOpen as P
use Rattle.rb_core.specs.declared.pattern.Pat.TheOpen.{Pat-F}
use Rattle.rb_core.specs.declared.program.Program.{Program}
use Rattle.rb_core.specs.declared.types.DataDecl.{DataDecl}
use Rattle.rb_core.specs.declared.types.Ty.{Ty}
use Rattle.rb_core.specs.declared.types.Ty.TheVariants.{Int, Named}
use Rattle.rb_core.specs.TypedPrograms.{IsTyped}
use Rattle.rb_core.specs.Values.{fields_of}
use Rattle.rb_core.specs.WellNumbered.{is_type}
use Rattle.rb_core.proofs.MatchingLemmas.{all_at}
use Rattle.rb_layout.specs.declared.layout.Layout.{Layout}
use Rattle.rb_layout.specs.Agreement.{Agrees}
use Rattle.rb_layout.specs.Flattening.{flat_layouts}
use Rattle.rb_layout.specs.Positions.{layout_of, types_or_none}
use Rattle.rb_rel.specs.Relation.{shape_length, word_count}
use Rattle.rb_rel.proofs.Existence.{has_layout}
use Rattle.rb_rel.proofs.Widths.{fields_typed}
use Rattle.rb_image_text.specs.declared.fault.ImageFault.{ImageFault}
use Rattle.rb_image_text.specs.declared.fault.ImageFault.TheVariants.{Memory, NoSuchPart}
use Rattle.rb_image_text.specs.declared.image.Image.{Image}
use Rattle.rb_image_text.specs.declared.image.ImageBlock.{ImageBlock}
use Rattle.rb_image.specs.declared.kept.Kept.{Kept}
use Rattle.rb_image.specs.declared.site.Site.{Site}
use Rattle.rb_image.specs.FieldSites.{words_of_field}
use Rattle.rb_image.specs.Fields.{Position, field_in, field_of, with_type}
use Rattle.rb_image.specs.Given.{IsGiven}
use Rattle.rb_image.specs.LeafWords.{block_addresses}
use Rattle.rb_image.specs.Orders.{order_of}
use Rattle.rb_image.specs.Parts.{field_word, field_words}
use Rattle.rb_image.specs.Sites.{kept_of}
use Rattle.rb_image.specs.Splits.{and_then, leaf_at, or_fault}
use Rattle.rb_image.specs.Values.{IsDeclared}
use Rattle.rb_image.specs.Visits.{IsTidy, IsVisited, first_refused, own_span}
use Rattle.rb_image.specs.Ways.{refused_below}
use Rattle.rb_image.proofs.LookLemmas.{given_err, given_memory, given_ok}
use Rattle.rb_image.proofs.VisitLemmas.{layouts_are_tidy}
use Rattle.rb_peek.specs.declared.walk.Passed.{Passed}
use Rattle.rb_peek.specs.Walks.{IsPassed, Waypoint, Where, where_at_root, data_of, layout_at, layout_or_none, leaf_or_none, where_after_step, open_data, open_in, see, seen_of, where_settled, span_at, step, unless, where_of, words_on}
use Rattle.rb_peek.specs.inner.Ordering.{AreOrderly}

-- Programs -----------------------------------------------------------------------------------
lt_is : (a b : ℕ) → nat_lt a b ≡ true → a < b
lt_is a b e = grind (arith, common_steps)

declared : (types : List DataDecl) (ty : Ty) → is_type types ty ≡ true → IsDeclared types ty
declared types (Int bits) e = tt
declared types (Named t) e = lt_is t (length types) e

pub orderly : (p : Program) → IsTyped p → Agrees p → AreOrderly p.types (flat_layouts p)
orderly p typed agrees = record {
  tidy = layouts_are_tidy p typed agrees;
  there = has_layout p typed agrees;
  declared = λ c i ty is. declared p.types ty (all_at (is_type p.types) (types_or_none (fields_of p.types c)) i ty (fields_typed p.types typed.numbered.types c) is);
}

-- What is given ------------------------------------------------------------------------------
module _ {A B C D : Type 0} (view : B → A) (last : D → C) where
  pub err_given : (due : Result A ImageFault) (go : A → Result C ImageFault) (f : ImageFault) → IsGiven view due (Err f) → IsGiven last (and_then due go) (Err f)
  err_given (Ok a) go f given = subst (λ x. IsGiven last (go a) (Err x)) (sym given) (given_memory last (go a))
  err_given (Err due) go f given = given

  pub then_given : (due : Result A ImageFault) (go : A → Result C ImageFault) (b : B) → IsGiven view due (Ok b) → and_then due go ≡ go (view b)
  then_given (Ok a) go b given = ap go (sym given)
  then_given (Err due) go b given = absurd given

-- One leaf -----------------------------------------------------------------------------------
module _ (layouts : List Layout) (t : ℕ) (layout : Layout) (is : layout_of layouts t ≡ Some layout) where
  layout_is : layout_at layouts t ≡ layout
  layout_is = ap layout_or_none is

  pub span_is : span_at layouts (Some t) ≡ own_span layout
  span_is = ap own_span layout_is

  pub count_is : word_count layouts (Named t) ≡ length layout.shape
  count_is = ap shape_length is

  -- the sites are those of the root words of its leaves
  pub tidy_at : IsTidy layout (length layout.shape) → (sites items : List Site) → sites ≡ items → length items ≡ word_count layouts (Named t) → IsTidy layout (length sites)
  tidy_at tidy sites items same count = subst (IsTidy layout) (sym (ap length same ∙ count ∙ count_is)) tidy

  pub span_fits : (n a : ℕ) → n ≤ a + own_span layout → n ≤ a + span_at layouts (Some t)
  span_fits n a le = subst (λ k. n ≤ a + k) (sym span_is) le

  module _ (m : List ImageBlock) (ws : List Kept) where
    abbrev at_number : Layout → ℕ → Waypoint
    at_number l n = record { ty = t; words = ws; leaf = leaf_or_none (slice_get l.leaves n); at = [] }

    see_is : see layouts m t ws ≡ and_then (leaf_at layout.tree m ws) (λ n. Ok (at_number layout n))
    see_is = ap (λ (l : Layout). and_then (leaf_at l.tree m ws) (λ n. Ok (at_number l n))) layout_is

    -- a subvalue is seen
    pub see_found : (x : Passed) → IsVisited m layout ws x.visited → x.ty ≡ t → x.at ≡ [] → IsGiven seen_of (see layouts m t ws) (Ok x)
    see_found x v same none =
        let leaf = x.visited.leaf.now in
        given_ok seen_of (see layouts m t ws) (record { ty = t; words = ws; leaf = leaf; at = [] }) x
        (see_is ∙ ap (λ (r : Result ℕ ImageFault). and_then r (λ n. Ok (at_number layout n))) v.leads ∙ ap (λ o. Ok (record { ty = t; words = ws; leaf = leaf_or_none o; at = [] })) v.is_leaf)
        (ap (λ k. record { ty = k; words = x.visited.words.root.items; leaf = leaf; at = x.at }) same ∙ ap (λ ks. record { ty = t; words = ks; leaf = leaf; at = x.at }) v.root
        ∙ ap (λ at. record { ty = t; words = ws; leaf = leaf; at = at }) none)

    -- or its splits have a fault
    pub see_failed : (fault : ImageFault) → (◌≡◌ {A = Result ℕ ImageFault} (leaf_at layout.tree m ws) (Err fault)) ⊎ (fault ≡ Memory) → IsGiven seen_of (see layouts m t ws) (Err fault)
    see_failed fault (inl at) = given_err seen_of (see layouts m t ws) fault (see_is ∙ ap (λ (r : Result ℕ ImageFault). and_then r (λ n. Ok (at_number layout n))) at)
    see_failed fault (inr memory) = subst (λ f. IsGiven seen_of (see layouts m t ws) (Err f)) (sym memory) (given_memory seen_of (see layouts m t ws))

-- Steps --------------------------------------------------------------------------------------
module _ (types : List DataDecl) (layouts : List Layout) (orderly : AreOrderly types layouts) where
  data_small : (ty : Ty) (t : ℕ) → IsDeclared types ty → data_of ty ≡ Some t → t < length types
  data_small (Int bits) t small e = absurd cc
  data_small (Named s) t small e = subst (λ n. n < length types) (same_Some s t e) small

  open_small : (l : Pat-F Pat) (ty : Ty) (t : ℕ) → IsDeclared types ty → open_in l (data_of ty) ≡ Some t → t < length types
  open_small (P.Wild at) ty t small e = data_small ty t small e
  open_small (P.Var at x) ty t small e = data_small ty t small e
  open_small (P.Num at n) ty t small e = absurd cc
  open_small (P.Con at c ps) ty t small e = absurd cc

  typed : (p : Option Pat) (o : Option Ty) (pos : Position) → with_type p o ≡ Some pos → o ≡ Some pos.ty
  typed None o pos e = absurd cc
  typed (Some p) None pos e = absurd cc
  typed (Some p) (Some ty) pos e = ap (λ x. Some x.ty) (same_Some _ pos e)

  pub field_typed : (l : Pat-F Pat) (i : ℕ) (pos : Position) → field_in types i l ≡ Some pos → IsDeclared types pos.ty
  field_typed (P.Wild at) i pos e = absurd cc
  field_typed (P.Var at x) i pos e = absurd cc
  field_typed (P.Num at n) i pos e = absurd cc
  field_typed (P.Con at c ps) i pos e = orderly.declared c i pos.ty (typed (slice_get ps i) (slice_get (types_or_none (fields_of types c)) i) pos e)

  -- the data type of a field is declared
  pub field_small : (p : Pat) (i : ℕ) (pos : Position) (t : ℕ) → field_of types p i ≡ Some pos → open_data pos ≡ Some t → t < length types
  field_small p i pos t e opened = open_small (out-Pat pos.pat) pos.ty t (field_typed (out-Pat p) i pos e) opened

-- what holds of items and of one more holds of all
pub all_more : {A : Type 0} (P : A → Type 0) (xs : List A) (y : A) → ((k : ℕ) (x : A) → slice_get xs k ≡ Some x → P x) → P y
    → (k : ℕ) (x : A) → slice_get (xs ++ y ∷ []) k ≡ Some x → P x
all_more P [] y all here zero x e = subst P (same_Some y x e) here
all_more P [] y all here (suc k) x e = absurd cc
all_more P (z ∷ xs) y all here zero x e = all zero x e
all_more P (z ∷ xs) y all here (suc k) x e = all_more P xs y (λ j w is. all (suc j) w is) here k x e

-- On to a leaf -------------------------------------------------------------------------------
module _ (layouts : List Layout) (image : Image) where
  abbrev m : List ImageBlock
  m = image.blocks

  -- the words of a field were found
  pub words_found : (x : Passed) → IsPassed image x → (t count : ℕ) (path : List ℕ) (sites found : List Site) → path ≡ x.at → sites ≡ x.sites.items → count ≡ word_count layouts (Named t)
      → first_refused m path x.visited ≡ None → map (kept_of image) found ≡ words_of_field image x.visited.leaf.now sites x.visited.words.addresses.items path count
      → ◌≡◌ {A = Result (List Kept) ImageFault} (words_on layouts m (seen_of x) t) (Ok (map (kept_of image) found))
  words_found x passed t count path sites found same_path same_sites same_count none there =
      let leaf = x.visited.leaf.now in
      let order = order_of leaf in
      let root = x.visited.words.root.items in
      let known = x.visited.words.addresses.items in
      let ats = block_addresses m leaf root in
      let words = field_words (field_word m root ats order) x.at 0 (word_count layouts (Named t)) in
      let free : refused_below m leaf root ats x.at order ≡ None =
      ap (λ xs. refused_below m leaf root xs x.at order) (sym passed.addresses) ∙ ap (λ p. first_refused m p x.visited) (sym same_path) ∙ none in
      let same : map (kept_of image) found ≡ words =
      there ∙ ap (λ p. words_of_field image leaf sites known p count) same_path
      ∙ ap (λ ss. words_of_field image leaf ss known x.at count) same_sites
      ∙ ap (λ ws. field_words (field_word m ws known order) x.at 0 count) passed.words
      ∙ ap (λ xs. field_words (field_word m root xs order) x.at 0 count) passed.addresses
      ∙ ap (λ n. field_words (field_word m root ats order) x.at 0 n) same_count in
      ap (λ o. unless o words) free ∙ ap (λ ws. Ok ws) (sym same)

  abbrev Found : Type 0
  Found = Result (List Kept) ImageFault

  abbrev on : Where → ℕ → List Kept → Result Where ImageFault
  on w t ws = and_then (see layouts m t ws) (λ s. Ok (where_at_root (w.before ++ w.last ∷ []) s))

  pub settled_ok : (w : Where) (t : ℕ) (ws : List Kept) (x : Passed) → ◌≡◌ {A = Found} (words_on layouts m w.last t) (Ok ws) → IsGiven seen_of (see layouts m t ws) (Ok x)
      → ◌≡◌ {A = Result Where ImageFault} (where_settled layouts m w (Some t)) (Ok (where_at_root (w.before ++ w.last ∷ []) (seen_of x)))
  settled_ok w t ws x is given =
      ap (λ (r : Found). and_then r (on w t)) is
      ∙ then_given seen_of where_of (see layouts m t ws) (λ s. Ok (where_at_root (w.before ++ w.last ∷ []) s)) x given

  pub settled_err : (w : Where) (t : ℕ) (ws : List Kept) (f : ImageFault) → ◌≡◌ {A = Found} (words_on layouts m w.last t) (Ok ws) → IsGiven seen_of (see layouts m t ws) (Err f)
      → IsGiven where_of (where_settled layouts m w (Some t)) (Err f)
  settled_err w t ws f is given =
      subst (λ (r : Found). IsGiven where_of (and_then r (on w t)) (Err f)) (sym is)
      (err_given seen_of where_of (see layouts m t ws) (λ s. Ok (where_at_root (w.before ++ w.last ∷ []) s)) f given)

-- Along a path -------------------------------------------------------------------------------
module _ (types : List DataDecl) (layouts : List Layout) (m : List ImageBlock) where
  pub step_some : (k : ℕ) (w : Where) (i : ℕ) (pos : Position) (o : Option ℕ) → field_of types w.here.pat i ≡ Some pos → open_data pos ≡ o
      → step types layouts m k w i ≡ where_settled layouts m (where_after_step w i pos) o
  step_some k w i pos o some opened =
      ap (λ p. and_then (or_fault p (NoSuchPart k)) (λ x. where_settled layouts m (where_after_step w i x) (open_data x))) some
      ∙ ap (λ x. where_settled layouts m (where_after_step w i pos) x) opened
