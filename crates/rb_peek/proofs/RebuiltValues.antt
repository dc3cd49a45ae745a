-- What is rebuilt of a value that stands at a position represents it.
use Rattle.std.proofs.Common.{◌≡◌, ℕ, zero, suc, ◌+◌, ◌<◌, inl, inr, ◌⊎◌, length, map, Bool, true, false, List, [], ◌∷◌, Option, Some, None, Result, Ok, Err, refl, sym, subst, ap, ◌∙◌, arith, append-nil}
use Rattle.std.specs.Prelude.{slice_get, if◌then◌else◌}
use Rattle.std.proofs.lemmas.Option.{same_Some, slice_get_within}
use Rattle.rb_core.specs.declared.pattern.Pat.{Pat, Con, Num, out-Pat}
use Rattle.rb_core.specs.declared.pattern.Pat.TheVariants.{outs-Wild, outs-Var, outs-Con}
use Rattle.rb_core.specs.declared.program.Program.{Program}
use Rattle.rb_core.specs.declared.types.ConRef.{ConRef}
use Rattle.rb_core.specs.declared.types.DataDecl.{DataDecl}
use Rattle.rb_core.specs.declared.types.Ty.{Ty}
use Rattle.rb_core.specs.declared.types.Ty.TheVariants.{Int, Named}
use Rattle.rb_core.specs.declared.value.Value.{Value}
use Rattle.rb_core.specs.TypedPrograms.{IsTyped}
use Rattle.rb_core.specs.Values.{are_of, fields_in, is_of_type}
use Rattle.rb_core.proofs.PatternLaws.{fold-Num}
use Rattle.rb_core.proofs.ValueLaws.{is_of_type-Con}
use Rattle.rb_bytes.specs.Memory.{Memory, IsGood}
use Rattle.rb_layout.specs.declared.layout.Block.{Block}
use Rattle.rb_layout.specs.declared.layout.Layout.{Layout}
use Rattle.rb_layout.specs.declared.layout.Leaf.{Leaf}
use Rattle.rb_layout.specs.A9.{HasPointerPart}
use Rattle.rb_layout.specs.Agreement.{Agrees}
use Rattle.rb_layout.specs.Flattening.{flat_layouts, same_path}
use Rattle.rb_layout.specs.Positions.{Open, layout_of, leaf_of, open_positions, opens_of}
use Rattle.rb_rel.specs.Relation.{Represents}
use Rattle.rb_rel.proofs.Agreeing.{lawful}
use Rattle.rb_rel.proofs.Existence.{first_leaf, has_layout}
use Rattle.rb_rel.proofs.Holding.{path_is}
use Rattle.rb_rel.proofs.Leaves.{leaf_matches}
use Rattle.rb_rel.proofs.Opens.{opens-Var, opens-Wild}
use Rattle.rb_rel.proofs.Reading.{same_nat}
use Rattle.rb_image_text.specs.declared.fault.ImageFault.{ImageFault}
use Rattle.rb_image_text.specs.declared.fault.ImageFault.TheVariants.{Memory as NoMemory}
use Rattle.rb_image_text.specs.declared.image.ImageBlock.{ImageBlock}
use Rattle.rb_image.specs.Splits.{and_then}
use Rattle.rb_image.proofs.HeldOnce.{same_self}
use Rattle.rb_peek.specs.declared.pack.FieldWords.{FieldWords}
use Rattle.rb_peek.specs.Rebuilds.{leaf_chosen, data_words, fields_at, words_of_leaf, rebuilding_within, words_along, words_at, words_at_path}
use Rattle.rb_peek.specs.RebuiltValues.{AreRight, RebuiltWordsRepresent, ValueStands, is_numberless, plain_step}
use Rattle.rb_peek.specs.TakenApart.{open_words}
use Rattle.rb_peek.specs.Views.{LeafPosition}
use Rattle.rb_peek.specs.Walks.{layout_or_none}
use Rattle.rb_peek.proofs.PackedWords.{packed_represent}
use Rattle.rb_peek.proofs.StandingLeaves.{Ends, chosen_is, claims, comes}
use Rattle.rb_peek.proofs.StandingParts.{Form, con, con_fits, forms, head_free, matched, num, prov_inner, var, wild}

same_Err : {A : Type 0} (f g : ImageFault) → ◌≡◌ {A = Result A ImageFault} (Err f) (Err g) → f ≡ g
same_Err f g e = cc

module _ (p : Program) (typed : IsTyped p) (agrees : Agrees p) (m : Memory) (good : IsGood m) (blocks : List ImageBlock) where
  abbrev types : List DataDecl
  types = p.types

  abbrev layouts : List Layout
  layouts = flat_layouts p

  abbrev Stand : LeafPosition → Value → Pat → Ty → Type 0
  Stand x v q ty = ValueStands p m blocks x v q ty

  abbrev Right : Ty → Value → Result (List ℕ) ImageFault → Type 0
  Right ty v r = AreRight p m blocks ty v r

  abbrev rebuilt : ℕ → ℕ → LeafPosition → Result (List ℕ) ImageFault
  rebuilt n = rebuilding_within types layouts blocks n

  abbrev End : LeafPosition → Value → Open → Type 0
  End x v o = Ends p typed agrees m good blocks x v o

  -- where constructors are rebuilt rightly
  abbrev Rebuilds : ℕ → Type 0
  Rebuilds n = (t : ℕ) (x : LeafPosition) (v : Value) (at : ℕ) (c : ConRef) (ps : List Pat) → Stand x v (Con at c ps) (Named t) → Right (Named t) v (rebuilt n t x)

  -- Positions --------------------------------------------------------------------------------
  open_right : (y : LeafPosition) (w : Value) (q : Pat) (ty : Ty) → Stand y w q ty → opens_of types q ty ≡ record { path = []; ty = ty } ∷ []
      → Represents types layouts m false ty w (open_words layouts blocks y y.at ty)
  open_right y w q ty st alone =
      let f = st.fields 0 (record { path = []; ty = ty }) (ap (λ (os : List Open). slice_get os 0) alone) in
      subst (λ u. Represents types layouts m false ty u (open_words layouts blocks y y.at ty)) (sym (same_Some w f.0 f.1))
      (subst (λ path. Represents types layouts m false ty f.0 (open_words layouts blocks y path ty)) (append-nil y.at) f.2)

  no_number : (q : Pat) (at n : ℕ) → q ≡ Num at n → is_numberless q ≡ true → ⊥
  no_number q at n e h = let z = sym (fold-Num Bool plain_step at n) ∙ sym (ap is_numberless e) ∙ h in cc

  at_type : (n : ℕ) → Rebuilds n → (y : LeafPosition) (w : Value) (q : Pat) (ty : Ty) → Stand y w q ty → Form q → Right ty w (words_at types layouts blocks (rebuilt n) ty y)
  at_type n ih y w q (Int bits) st (wild at e) = open_right y w q (Int bits) st (ap (λ r. opens_of types r (Int bits)) e ∙ opens-Wild types at (Int bits))
  at_type n ih y w q (Int bits) st (var at x e) = open_right y w q (Int bits) st (ap (λ r. opens_of types r (Int bits)) e ∙ opens-Var types at x (Int bits))
  at_type n ih y w q (Int bits) st (num at i e) = absurd (no_number q at i e st.inner.plain)
  at_type n ih y w q (Int bits) st (con at c ps e) =
      absurd (let f = (con_fits p typed agrees m good blocks at c ps (Int bits) (subst (λ r. Stand y w r (Int bits)) e st).inner).0 in cc)
  at_type n ih y w q (Named t) st (wild at e) =
      subst (λ l. Right (Named t) w (data_words types layouts blocks (rebuilt n) t y l)) (sym (ap out-Pat (st.is_pat ∙ e) ∙ outs-Wild at))
      (open_right y w q (Named t) st (ap (λ r. opens_of types r (Named t)) e ∙ opens-Wild types at (Named t)))
  at_type n ih y w q (Named t) st (var at x e) =
      subst (λ l. Right (Named t) w (data_words types layouts blocks (rebuilt n) t y l)) (sym (ap out-Pat (st.is_pat ∙ e) ∙ outs-Var at x))
      (open_right y w q (Named t) st (ap (λ r. opens_of types r (Named t)) e ∙ opens-Var types at x (Named t)))
  at_type n ih y w q (Named t) st (num at i e) = absurd (no_number q at i e st.inner.plain)
  at_type n ih y w q (Named t) st (con at c ps e) =
      subst (λ l. Right (Named t) w (data_words types layouts blocks (rebuilt n) t y l)) (sym (ap out-Pat (st.is_pat ∙ e) ∙ outs-Con at c ps))
      (ih t y w at c ps (subst (λ r. Stand y w r (Named t)) e st))

  words_right : (n : ℕ) → Rebuilds n → (y : LeafPosition) (w : Value) (q : Pat) (ty : Ty) → Stand y w q ty → Right ty w (words_at types layouts blocks (rebuilt n) y.here.ty y)
  words_right n ih y w q ty st = subst (λ s. Right ty w (words_at types layouts blocks (rebuilt n) s y)) (sym st.is_ty) (at_type n ih y w q ty st (forms q))

  -- Fields -----------------------------------------------------------------------------------
  module _ (n : ℕ) (ih : Rebuilds n) (x : LeafPosition) (v : Value) where
    abbrev along_to : List ℕ → Result (List ℕ) ImageFault
    along_to path = words_along types layouts blocks (rebuilt n) x path

    -- the words of each field are those along its path
    abbrev AreFields : List Open → Result (List FieldWords) ImageFault → Type 0
    AreFields os (Ok fields) = (k : ℕ) (o : Open) → slice_get os k ≡ Some o → along_to o.path ≡ Ok (words_at_path fields o.path)
    AreFields os (Err fault) = fault ≡ NoMemory

    along_is : (o : Open) (e : End x v o) → along_to o.path ≡ words_at types layouts blocks (rebuilt n) e.y.here.ty e.y
    along_is o e = ap (λ (r : Result LeafPosition ImageFault). and_then r (λ y. words_at types layouts blocks (rebuilt n) y.here.ty y)) e.is_along

    along_right : (o : Open) (e : End x v o) → Right o.ty e.w (along_to o.path)
    along_right o e = subst (λ (r : Result (List ℕ) ImageFault). Right o.ty e.w r) (sym (along_is o e)) (words_right n ih e.y e.w e.pat o.ty e.stands)

    looked : (o q : Open) (ws : List ℕ) (fields : List FieldWords) → along_to o.path ≡ Ok ws → (b : Bool) → same_path o.path q.path ≡ b → (b ≡ false → along_to q.path ≡ Ok (words_at_path fields q.path))
        → along_to q.path ≡ Ok (words_at_path (record { path = o.path; words = ws } ∷ fields) q.path)
    looked o q ws fields is true same rest =
        ap along_to (sym (path_is o.path q.path same)) ∙ is ∙ ap (λ b. Ok (if b then ws else words_at_path fields q.path)) (sym same)
    looked o q ws fields is false same rest = rest refl ∙ ap (λ b. Ok (if b then ws else words_at_path fields q.path)) (sym same)

    one_more : (o : Open) (os : List Open) (ws : List ℕ) → along_to o.path ≡ Ok ws → (r : Result (List FieldWords) ImageFault) → AreFields os r
        → AreFields (o ∷ os) (and_then r (λ fields. Ok (record { path = o.path; words = ws } ∷ fields)))
    one_more o os ws is (Err fault) h = h
    one_more o os ws is (Ok fields) h = each
      where
        each : (k : ℕ) (q : Open) → slice_get (o ∷ os) k ≡ Some q → along_to q.path ≡ Ok (words_at_path (record { path = o.path; words = ws } ∷ fields) q.path)
        each zero q e = looked o q ws fields is (same_path o.path q.path) refl
            (λ differs. absurd (let z = sym differs ∙ ap (λ (r : Open). same_path o.path r.path) (sym (same_Some o q e)) ∙ same_self o.path in cc))
        each (suc k) q e = looked o q ws fields is (same_path o.path q.path) refl (λ differs. h k q e)

    first_field : (o : Open) (os : List Open) (r : Result (List ℕ) ImageFault) → along_to o.path ≡ r → Right o.ty v r ⊎ ((fault : ImageFault) → r ≡ Err fault → fault ≡ NoMemory)
        → AreFields os (fields_at types layouts blocks (rebuilt n) x os)
        → AreFields (o ∷ os) (and_then r (λ ws. and_then (fields_at types layouts blocks (rebuilt n) x os) (λ fields. Ok (record { path = o.path; words = ws } ∷ fields))))
    first_field o os (Ok ws) is right h = one_more o os ws is (fields_at types layouts blocks (rebuilt n) x os) h
    first_field o os (Err fault) is (inl wanting) h = wanting
    first_field o os (Err fault) is (inr wanting) h = wanting fault refl

    only_memory : (ty : Ty) (w : Value) (r : Result (List ℕ) ImageFault) → Right ty w r → (fault : ImageFault) → r ≡ Err fault → fault ≡ NoMemory
    only_memory ty w (Ok ws) h fault e = absurd cc
    only_memory ty w (Err f) h fault e = sym (same_Err f fault e) ∙ h

    fields_right : (os : List Open) → ((k : ℕ) (o : Open) → slice_get os k ≡ Some o → End x v o) → AreFields os (fields_at types layouts blocks (rebuilt n) x os)
    fields_right [] ends = λ k o e. absurd cc
    fields_right (o ∷ os) ends =
        let e = ends 0 o refl in
        first_field o os (along_to o.path) refl (inr (only_memory o.ty e.w (along_to o.path) (along_right o e))) (fields_right os (λ k q h. ends (suc k) q h))

  -- Values -----------------------------------------------------------------------------------
  small : (t : ℕ) (d : Option DataDecl) (k : ℕ) (fs : List (Ty → Bool)) → slice_get types t ≡ d → are_of fs (fields_in d k) ≡ true → t < length types
  small t None k fs e h = absurd cc
  small t (Some d) k fs e h = slice_get_within types t d e

  no_blocks : (t : ℕ) (layout : Layout) (n : ℕ) (leaf : Leaf) → layout_of layouts t ≡ Some layout → slice_get layout.leaves n ≡ Some leaf → (HasPointerPart layouts t → ⊥) → leaf.blocks ≡ []
  no_blocks t layout n leaf is_layout is_number free = go leaf.blocks refl
    where
      go : (bs : List Block) → leaf.blocks ≡ bs → leaf.blocks ≡ []
      go [] e = e
      go (b ∷ bs) e =
          let q = ((lawful p agrees typed).flat t layout n leaf is_layout is_number).pointed 0 b (ap (λ (cs : List Block). slice_get cs 0) e) in
          absurd (free (record {
            layout = layout;
            number = n;
            leaf = leaf;
            ref = q.0;
            length = q.1;
            align = b.align;
            block = 0;
            is_layout = is_layout;
            is_leaf = is_number;
            points = q.2;
          }))

  packs : (n : ℕ) (ih : Rebuilds n) (t : ℕ) (x : LeafPosition) (v : Value) (layout : Layout) (k : ℕ) (leaf : Leaf) → layout_of layouts t ≡ Some layout → leaf_of layout v ≡ Some k
      → slice_get layout.leaves k ≡ Some leaf → leaf.blocks ≡ [] → ((i : ℕ) (o : Open) → slice_get (open_positions types leaf.prov) i ≡ Some o → End x v o)
      → (r : Result (List FieldWords) ImageFault) → AreFields n ih x v (open_positions types leaf.prov) r → Right (Named t) v (and_then r (λ fields. Ok (words_of_leaf leaf fields)))
  packs n ih t x v layout k leaf is_layout is_leaf is_number none ends (Err fault) h = h
  packs n ih t x v layout k leaf is_layout is_leaf is_number none ends (Ok fields) h =
      packed_represent p typed agrees m good false t v layout k leaf is_layout is_leaf is_number none fields
      (λ i o e. let end = ends i o e in (end.w, end.is_part, subst (λ (r : Result (List ℕ) ImageFault). Right o.ty end.w r) (h i o e) (along_right n ih x v o end)))

  rebuilt_right : (n : ℕ) → Rebuilds n
  rebuilt_right zero t x v at c ps st = refl
  rebuilt_right (suc n) t x v at c ps st =
      let ih = rebuilt_right n in
      let f = con_fits p typed agrees m good blocks at c ps (Named t) st.inner in
      let own : t ≡ c.ty = same_nat t c.ty f.0 in
      let free : HasPointerPart layouts t → ⊥ = subst (λ i. HasPointerPart layouts i → ⊥) (sym own) (head_free p typed agrees m good blocks at c ps (Named t) st.inner) in
      let w = matched at c ps v st.matches in
      let lt = small t (slice_get types t) c.con (map (is_of_type types) w.vs) refl (sym (ap (λ u. is_of_type types u (Named t)) w.is ∙ is_of_type-Con types c.con w.vs (Named t)) ∙ st.typed) in
      let l = has_layout p typed agrees t lt in
      let layout = l.0 in
      let some = agrees.a5.complete t layout l.1 v st.typed in
      let first = first_leaf layout.leaves v some.0 some.1 some.2 some.3 0 in
      let all = λ (k : ℕ) (leaf : Leaf) (e : slice_get layout.leaves k ≡ Some leaf).
      claims p typed agrees m good blocks leaf.prov x v (Con at c ps) (Named t) st (prov_inner p typed agrees m good blocks t layout k leaf l.1 e free) in
      let ch = chosen_is p typed agrees m good blocks x v layout.leaves all 0 (0 + first.0) first.2 in
      let leaf = ch.leaf in
      let number : 0 + first.0 ≡ ch.number = (let z = ch.is_number in omega (arith, z)) in
      let is_leaf : leaf_of layout v ≡ Some ch.number = first.2 ∙ ap Some number in
      let mt = leaf_matches layout.leaves v 0 (0 + first.0) leaf first.2 ch.number ch.is_number ch.is_leaf in
      let root = (lawful p agrees typed).provenances.root t layout ch.number leaf l.1 ch.is_leaf in
      let ends = λ (k : ℕ) (o : Open) (e : slice_get (open_positions types leaf.prov) k ≡ Some o).
      comes p typed agrees m good blocks leaf.prov x v (Con at c ps) (Named t) st (prov_inner p typed agrees m good blocks t layout ch.number leaf l.1 ch.is_leaf free) mt k o
      (ap (λ (ty : Ty). slice_get (opens_of types leaf.prov ty) k) (sym root) ∙ e) in
      let go = λ (leaf : Leaf). and_then (fields_at types layouts blocks (rebuilt n) x (open_positions types leaf.prov)) (λ fields. Ok (words_of_leaf leaf fields)) in
      let is : rebuilt (suc n) t x ≡ go leaf =
      ap (λ o. and_then (leaf_chosen types layouts blocks (layout_or_none o).leaves x) go) l.1 ∙ ap (λ (r : Result Leaf ImageFault). and_then r go) ch.is_chosen in
      subst (λ (r : Result (List ℕ) ImageFault). Right (Named t) v r) (sym is)
      (packs n ih t x v layout ch.number leaf l.1 is_leaf ch.is_leaf (no_blocks t layout ch.number leaf l.1 ch.is_leaf free) ends
      (fields_at types layouts blocks (rebuilt n) x (open_positions types leaf.prov)) (fields_right n ih x v (open_positions types leaf.prov) ends))

pub rebuilt_words_represent : RebuiltWordsRepresent
rebuilt_words_represent p typed agrees m good blocks x v pat ty st =
    words_right p typed agrees m good blocks (length (flat_layouts p)) (rebuilt_right p typed agrees m good blocks (length (flat_layouts p))) x v pat ty st
