-- Where an image holds a value, what is given of a part represents it, also where it was taken apart.
use Rattle.std.proofs.Common.{◌≡◌, ℕ, suc, ◌+◌, ◌++◌, inl, inr, false, true, List, [], ◌∷◌, map, Option, Some, None, Result, Ok, refl, sym, subst, ap, ◌∙◌, arith, append_assoc, append-nil}
use Rattle.std.specs.Prelude.{slice_get}
use Rattle.std.specs.List.{flat_map}
use Rattle.std.proofs.lemmas.Bool.{and_parts}
use Rattle.std.proofs.lemmas.Option.{same_Some}
use Rattle.rb_core.specs.declared.pattern.Pat.{Pat, Con, out-Pat}
use Rattle.rb_core.specs.declared.pattern.Pat.TheOpen as P
use Rattle.rb_core.specs.declared.pattern.Pat.TheOpen.{Pat-F}
use Rattle.rb_core.specs.declared.pattern.Pat.TheVariants.{outs-Wild, outs-Var, outs-Num, outs-Con}
use Rattle.rb_core.specs.declared.program.Program.{Program}
use Rattle.rb_core.specs.declared.types.ConRef.{ConRef}
use Rattle.rb_core.specs.declared.types.DataDecl.{DataDecl}
use Rattle.rb_core.specs.declared.types.Ty.{Ty}
use Rattle.rb_core.specs.declared.types.Ty.TheVariants.{Int, Named}
use Rattle.rb_core.specs.declared.value.Value.{Value}
use Rattle.rb_core.specs.Matching.{matches_of}
use Rattle.rb_core.specs.TypedPrograms.{IsTyped}
use Rattle.rb_core.specs.Values.{are_of, fields_in, fields_of, is_of_type, part_at, part_from, subs}
use Rattle.rb_core.proofs.ValueLaws.{is_of_type-Con, subs-Con}
use Rattle.rb_bytes.specs.Memory.{Memory}
use Rattle.rb_layout.specs.declared.layout.Layout.{Layout}
use Rattle.rb_layout.specs.declared.layout.Leaf.{Leaf}
use Rattle.rb_layout.specs.A9.{HasPointerPart, cons_below, cons_below_root, pattern_cons}
use Rattle.rb_layout.specs.Agreement.{Agrees}
use Rattle.rb_layout.specs.Flattening.{flat_layouts}
use Rattle.rb_layout.specs.Positions.{Open, open_positions, opens_of, types_or_none}
use Rattle.rb_rel.specs.Relation.{Represents, word_count}
use Rattle.rb_rel.specs.Relation as R
use Rattle.rb_rel.proofs.Agreeing.{lawful}
use Rattle.rb_rel.specs.Provenances.{fits_type, is_named}
use Rattle.rb_rel.proofs.Leaves.{leaf_matches}
use Rattle.rb_rel.proofs.Lists.{get-mapped}
use Rattle.rb_rel.proofs.Opens.{fits-Con, fitting}
use Rattle.rb_rel.proofs.Reading.{same_nat}
use Rattle.rb_rel.proofs.Represented.{Represents-int}
use Rattle.rb_rel.proofs.Typing.{Represents-typed}
use Rattle.rb_image_text.specs.declared.fault.ImageFault.{ImageFault}
use Rattle.rb_image_text.specs.declared.image.ImageBlock.{ImageBlock}
use Rattle.rb_image.specs.declared.kept.Kept.{Kept}
use Rattle.rb_image.specs.Fields.{Position, field_in, field_of, with_type}
use Rattle.rb_image.specs.Integers.{field_bit, number_of_bits}
use Rattle.rb_image.specs.LeafWords.{block_addresses}
use Rattle.rb_image.specs.Memories.{image_memory}
use Rattle.rb_image.specs.Orders.{LocatedPart, order_of}
use Rattle.rb_image.specs.Parts.{bits_at, field_word, field_words}
use Rattle.rb_image.specs.Roots.{kept_from}
use Rattle.rb_image.specs.Splits.{leaf_at}
use Rattle.rb_image.specs.Ways.{refused_below}
use Rattle.rb_image.proofs.DescendingValues.{Descends-represents}
use Rattle.rb_image.proofs.ExaminedParts.{then_ok}
use Rattle.rb_image.proofs.FallLemmas.{same_Ok}
use Rattle.rb_image.proofs.SpotLemmas.{get_in, in_get}
use Rattle.rb_image.proofs.WholeMemories.{IsWhole, image_whole}
use Rattle.rb_peek.specs.HeldParts.{GivenPartsAreHeld}
use Rattle.rb_peek.specs.PathParts.{IsPartThere}
use Rattle.rb_peek.specs.Peeking.{words_there}
use Rattle.rb_peek.specs.Rebuilds.{end_of, numbers_of, rebuilt_words, unless_refused, words_of}
use Rattle.rb_peek.specs.RebuiltValues.{AreRight, IsInner, ValueStands, is_numberless}
use Rattle.rb_peek.specs.TakenApart.{open_words}
use Rattle.rb_peek.specs.Walks.{Waypoint, Where, where_at_root, layout_at, leaf_or_none, where_after_step, see, step, steps}
use Rattle.rb_peek.proofs.PartWords.{fields_numbers, integer_is}
use Rattle.rb_peek.proofs.PathParts as Q
use Rattle.rb_peek.proofs.PathParts.{arrive, enters, inside, part_append, paths_lead, root_kept, root_numbers}
use Rattle.rb_peek.proofs.PathWalks.{Sees, Walks, stepped}
use Rattle.rb_peek.proofs.RebuiltValues.{rebuilt_words_represent}
use Rattle.rb_peek.proofs.StandingParts.{Form, con, cons-Con, flat_same, forms, in_one, matched, num, plain-Con, plain_at, plain_provenance, two_from, types_two, var, wild}

with_both : (o : Option Pat) (t : Option Ty) (pos : Position) → with_type o t ≡ Some pos → (o ≡ Some pos.pat) × (t ≡ Some pos.ty)
with_both None t pos e = absurd cc
with_both (Some q) None pos e = absurd cc
with_both (Some q) (Some t) pos e = (ap (λ (x : Position). Some x.pat) (same_Some _ pos e), ap (λ (x : Position). Some x.ty) (same_Some _ pos e))

module _ (p : Program) (typed : IsTyped p) (agrees : Agrees p) (blocks : List ImageBlock) (m : Memory) (is : IsWhole blocks m) (v : Value) where
  abbrev types : List DataDecl
  types = p.types

  abbrev layouts : List Layout
  layouts = flat_layouts p

  -- a pattern of a type, the types of whose constructors have no pointers, but for the one at its head
  record Fits (q : Pat) (ty : Ty) : Type 0 where
    fits : fits_type types q ty ≡ true
    plain : is_numberless q ≡ true
    free : (k : ℕ) (c : ConRef) → slice_get (cons_below q) k ≡ Some c → HasPointerPart layouts c.ty → ⊥

  -- what stands at the position of a walk, in the last subvalue
  record Extra (w : Where) (u : Value) : Type 0 where
    part : Value
    is_part : part_at u w.last.at ≡ Some part
    fit : Fits w.here.pat w.here.ty
    of_type : is_of_type types part w.here.ty ≡ true
    matches : matches_of w.here.pat part ≡ true
    inner : (w.last.at ≡ [] → ⊥) → IsInner p w.here.pat w.here.ty

  below_con : (at : ℕ) (c : ConRef) (ps : List Pat) → cons_below (Con at c ps) ≡ flat_map (λ (cs : List ConRef). cs) (map pattern_cons ps)
  below_con at c ps = ap cons_below_root (outs-Con at c ps) ∙ sym (flat_same ps)

  inner_fits : (q : Pat) (ty : Ty) → IsInner p q ty → Fits q ty
  inner_fits q ty h = record { fits = h.fits; plain = h.plain; free = go (forms q) }
    where
      go : Form q → (k : ℕ) (d : ConRef) → slice_get (cons_below q) k ≡ Some d → HasPointerPart layouts d.ty → ⊥
      go (wild at e) k d g = absurd (let z = sym (ap (λ (l : Pat-F Pat). slice_get (cons_below_root l) k) (ap out-Pat e ∙ outs-Wild at)) ∙ g in cc)
      go (var at x e) k d g = absurd (let z = sym (ap (λ (l : Pat-F Pat). slice_get (cons_below_root l) k) (ap out-Pat e ∙ outs-Var at x)) ∙ g in cc)
      go (num at n e) k d g = absurd (let z = sym (ap (λ (l : Pat-F Pat). slice_get (cons_below_root l) k) (ap out-Pat e ∙ outs-Num at n)) ∙ g in cc)
      go (con at c ps e) k d g =
          let all : pattern_cons q ≡ c ∷ flat_map (λ (cs : List ConRef). cs) (map pattern_cons ps) = ap pattern_cons e ∙ cons-Con at c ps in
          h.free (suc k) d (ap (λ (cs : List ConRef). slice_get cs (suc k)) all ∙ ap (λ (cs : List ConRef). slice_get cs k) (sym (ap cons_below e ∙ below_con at c ps)) ∙ g)

  -- Steps ------------------------------------------------------------------------------------
  no_field : (l : Pat-F Pat) (q : Pat) (i : ℕ) (pos : Position) → out-Pat q ≡ l → field_in types i l ≡ None → field_of types q i ≡ Some pos → ⊥
  no_field l q i pos out none e = let no : ◌≡◌ {A = Option Position} None (Some pos) = sym (ap (field_in types i) out ∙ none) ∙ e in cc

  con_step : (w : Where) (i : ℕ) (pos : Position) (u : Value) → Extra w u → field_of types w.here.pat i ≡ Some pos → (at : ℕ) (c : ConRef) (ps : List Pat) → w.here.pat ≡ Con at c ps
      → (ty : Ty) → w.here.ty ≡ ty → Extra (where_after_step w i pos) u
  con_step w i pos u x field at c ps form (Int bits) is_ty =
      absurd (let f = and_parts (is_named c.ty (Int bits)) (are_of (map (fits_type types) ps) (fields_of types c))
      (sym (fits-Con types at c ps (Int bits)) ∙ ap (fits_type types (Con at c ps)) (sym is_ty) ∙ ap (λ q. fits_type types q w.here.ty) (sym form) ∙ x.fit.fits) in cc)
  con_step w i pos u x field at c ps form (Named s) is_ty =
      let ts = types_or_none (fields_of types c) in
      let f = and_parts (is_named c.ty (Named s)) (are_of (map (fits_type types) ps) (fields_of types c))
      (sym (fits-Con types at c ps (Named s)) ∙ ap (fits_type types (Con at c ps)) (sym is_ty) ∙ ap (λ q. fits_type types q w.here.ty) (sym form) ∙ x.fit.fits) in
      let own : s ≡ c.ty = same_nat s c.ty f.0 in
      let both_ = with_both (slice_get ps i) (slice_get ts i) pos (sym (ap (λ q. field_of types q i) form ∙ ap (field_in types i) (outs-Con at c ps)) ∙ field) in
      let two = types_two (fits_type types) ps ts (fitting types (map (fits_type types) ps) (fields_of types c) f.1) in
      let t = two_from (fits_type types) ps ts two i pos.pat both_.0 in
      let same_ty : t.0 ≡ pos.ty = same_Some t.0 pos.ty (sym t.1 ∙ both_.1) in
      let l = matched at c ps x.part (ap (λ q. matches_of q x.part) (sym form) ∙ x.matches) in
      let part = two_from matches_of ps l.vs l.pass i pos.pat both_.0 in
      let listed : are_of (map (is_of_type types) l.vs) (fields_in (slice_get types s) c.con) ≡ true =
      sym (ap (λ (o : Value). is_of_type types o (Named s)) l.is ∙ is_of_type-Con types c.con l.vs (Named s)) ∙ ap (is_of_type types x.part) (sym is_ty) ∙ x.of_type in
      let kinds = types_two (is_of_type types) l.vs (types_or_none (fields_in (slice_get types s) c.con)) (fitting types (map (is_of_type types) l.vs) (fields_in (slice_get types s) c.con) listed) in
      let r = two_from (is_of_type types) l.vs (types_or_none (fields_in (slice_get types s) c.con)) kinds i part.0 part.1 in
      let one : r.0 ≡ pos.ty = same_Some r.0 pos.ty (sym r.1 ∙ ap (λ j. slice_get (types_or_none (fields_in (slice_get types j) c.con)) i) own ∙ both_.1) in
      let inner : IsInner p pos.pat pos.ty = record {
        fits = subst (λ ty. fits_type types pos.pat ty ≡ true) same_ty t.2;
        plain = plain_at ps (sym (plain-Con at c ps) ∙ ap is_numberless (sym form) ∙ x.fit.plain) i pos.pat both_.0;
        free = λ k d h.
            let j = in_one d (map pattern_cons ps) i (pattern_cons pos.pat) (get-mapped pattern_cons ps i pos.pat both_.0) (get_in d (pattern_cons pos.pat) k h) in
            let g = in_get d (flat_map (λ (cs : List ConRef). cs) (map pattern_cons ps)) j in
            x.fit.free g.0 d (ap (λ q. slice_get (cons_below q) g.0) form ∙ ap (λ (cs : List ConRef). slice_get cs g.0) (below_con at c ps) ∙ g.1);
      } in
      record {
        part = part.0;
        is_part = part_append (Some u) w.last.at (i ∷ []) ∙ ap (λ o. part_from o (i ∷ [])) x.is_part
            ∙ ap (λ us. slice_get us i) (ap subs l.is ∙ subs-Con c.con l.vs) ∙ part.1;
        fit = inner_fits pos.pat pos.ty inner;
        of_type = subst (λ ty. is_of_type types part.0 ty ≡ true) one r.2;
        matches = part.2;
        inner = λ h. inner;
      }

  step_extra : (w : Where) (i : ℕ) (pos : Position) (u : Value) → Extra w u → field_of types w.here.pat i ≡ Some pos → Extra (where_after_step w i pos) u
  step_extra w i pos u x field = go (forms w.here.pat)
    where
      go : Form w.here.pat → Extra (where_after_step w i pos) u
      go (wild at e) = absurd (no_field (P.Wild at) w.here.pat i pos (ap out-Pat e ∙ outs-Wild at) refl field)
      go (var at y e) = absurd (no_field (P.Var at y) w.here.pat i pos (ap out-Pat e ∙ outs-Var at y) refl field)
      go (num at n e) = absurd (no_field (P.Num at n) w.here.pat i pos (ap out-Pat e ∙ outs-Num at n) refl field)
      go (con at c ps e) = con_step w i pos u x field at c ps e w.here.ty refl

  abbrev Stood : Where → List ℕ → Type 0
  Stood w first = Q.Stands p typed agrees blocks m is v w first

  see_root : (t : ℕ) (ws : List Kept) (s : Waypoint) → ◌≡◌ {A = Sees} (see layouts blocks t ws) (Ok s) → s.at ≡ []
  see_root t ws s e =
      let layout = layout_at layouts t in
      let r = then_ok (leaf_at layout.tree blocks ws) (λ n. Ok (record { ty = t; words = ws; leaf = leaf_or_none (slice_get layout.leaves n); at = [] })) s e in
      sym (ap (λ (x : Waypoint). x.at) (same_Ok (record { ty = t; words = ws; leaf = leaf_or_none (slice_get layout.leaves r.0); at = [] }) s r.2))

  arrive_extra : (before : List Waypoint) (s : Waypoint) (first : List ℕ) (st : Stood (where_at_root before s) first) → s.at ≡ [] → Extra (where_at_root before s) st.u
  arrive_extra before s first st none =
      let b = st.b in
      let law = (lawful p agrees typed).provenances in
      let z : 0 + b.number ≡ b.number = omega arith in
      let rep : Represents types layouts m false (Named s.ty) st.u st.ws = R.built s.ty st.u st.ws b (λ k o e. Descends-represents (st.below k o e)) in
      let fit : Fits b.leaf.prov (Named s.ty) = record {
        fits = law.fits s.ty b.layout b.number b.leaf b.is_layout b.is_number;
        plain = plain_provenance b.leaf.prov (law.shaped s.ty b.layout b.number b.leaf b.is_layout b.is_number);
        free = λ k d e. agrees.a9.no_pointer s.ty b.layout b.number b.leaf b.is_layout b.is_number d.ty (record { number = k; con = d; is_below = e; is_type = refl });
      } in
      record {
        part = st.u;
        is_part = ap (part_at st.u) none;
        fit = subst (λ (l : Leaf). Fits l.prov (Named s.ty)) (sym st.is_leaf) fit;
        of_type = Represents-typed types layouts m false law rep;
        matches = ap (λ (l : Leaf). matches_of l.prov st.u) st.is_leaf ∙ leaf_matches b.layout.leaves st.u 0 b.number b.leaf b.is_leaf b.number z b.is_number;
        inner = λ h. absurd (h none);
      }

  abbrev Both : Where → List ℕ → Type 0
  Both w first = (st : Stood w first) × Extra w st.u

  both_steps : (rest first : List ℕ) (k : ℕ) (w end : Where) → Both w first → ◌≡◌ {A = Walks} (steps types layouts blocks k w rest) (Ok end) → Both end (first ++ rest)
  both_steps [] first k w end st e = subst (λ (x : Where). Both x (first ++ [])) (same_Ok w end e) (subst (Both w) (sym (append-nil first)) st)
  both_steps (i ∷ rest) first k w end st e =
      let r = then_ok (step types layouts blocks k w i) (λ x. steps types layouts blocks (k + 1) x rest) end e in
      let s = stepped types layouts blocks k w i r.0 r.1 in
      let moves : Stood (where_after_step w i s.here) (first ++ i ∷ []) = inside p typed agrees blocks m is v w first i s.here st.0 s.is_field in
      let next : Both r.0 (first ++ i ∷ []) = elim s.how [
        | inl h ↦ subst (λ (x : Where). Both x (first ++ i ∷ [])) (sym h.is) (moves, step_extra w i s.here st.0.u st.1 s.is_field)
        | inr h ↦
            let n = enters p typed agrees blocks m is v (where_after_step w i s.here) (first ++ i ∷ []) moves h.ty h.words h.next h.is_data h.is_words h.is_next in
            subst (λ (x : Where). Both x (first ++ i ∷ [])) (sym h.is) (n, arrive_extra _ h.next (first ++ i ∷ []) n (see_root h.ty h.words h.next h.is_next))
      ] in
      subst (Both end) (append_assoc first (i ∷ []) rest) (both_steps rest (first ++ i ∷ []) (k + 1) r.0 end next r.2)

  -- Ends -------------------------------------------------------------------------------------
  module _ (w : Where) (first : List ℕ) (st : Stood w first) where
    reps : (k : ℕ) (o : Open) → slice_get (open_positions types st.b.leaf.prov) k ≡ Some o → Represents types layouts m false o.ty (st.b.at o.path) (st.b.subs o.path)
    reps k o e = Descends-represents (st.below k o e)

    words_same : (k : ℕ) (o : Open) (e : slice_get (open_positions types st.b.leaf.prov) k ≡ Some o) (ty : Ty) → o.ty ≡ ty → open_words layouts blocks (end_of types layouts blocks w) o.path ty ≡ st.b.subs o.path
    words_same k o e (Int bits) is_int =
        let r = Represents-int types layouts m false bits (st.b.at o.path) (st.b.subs o.path) (subst (λ (ty : Ty). Represents types layouts m false ty (st.b.at o.path) (st.b.subs o.path)) is_int (reps k o e)) in
        let gathered = λ (l : Leaf). number_of_bits bits (field_bit (λ (part : LocatedPart). (bits_at blocks w.last.words (block_addresses blocks l w.last.words) part).number) (Int bits) (order_of l) o.path) in
        ap (λ n. n ∷ []) (ap gathered st.is_leaf
        ∙ integer_is p typed agrees blocks m is w.last.ty st.u st.ws st.from st.b st.inner st.falls st.are_kept reps w.last.words st.kept k o e bits is_int r.0 r.3 r.2) ∙ sym r.2
    words_same k o e (Named s) is_named =
        let found = λ (l : Leaf). numbers_of (field_words (field_word blocks w.last.words (block_addresses blocks l w.last.words) (order_of l)) o.path 0 (word_count layouts (Named s))) in
        ap found st.is_leaf ∙ fields_numbers p typed agrees blocks m is w.last.ty st.u st.ws st.from st.b st.inner st.falls st.are_kept reps w.last.words st.kept k o e s is_named

    stands_end : (x : Extra w st.u) → (w.last.at ≡ [] → ⊥) → ValueStands p m blocks (end_of types layouts blocks w) x.part w.here.pat w.here.ty
    stands_end x within = record {
      is_pat = refl;
      is_ty = refl;
      inner = x.inner within;
      typed = x.of_type;
      matches = x.matches;
      fields = λ k o e.
          let q : Open = record { path = w.last.at ++ o.path; ty = o.ty } in
          let g = in_get q (open_positions types st.b.leaf.prov) (st.opens o (get_in o (opens_of types w.here.pat w.here.ty) k e)) in (
            st.b.at q.path,
            ap (λ u. part_from u o.path) (sym x.is_part) ∙ sym (part_append (Some st.u) w.last.at o.path) ∙ st.b.is_at g.0 q g.1,
            subst (λ xs. Represents types layouts m false o.ty (st.b.at q.path) xs) (sym (words_same g.0 q g.1 o.ty refl)) (reps g.0 q g.1),
          );
    }

right_ok : (p : Program) (m : Memory) (blocks : List ImageBlock) (ty : Ty) (v : Value) (r : Result (List ℕ) ImageFault) (ws : List ℕ) → AreRight p m blocks ty v r → r ≡ Ok ws → Represents p.types (flat_layouts p) m false ty v ws
right_ok p m blocks ty v r ws h e = subst (AreRight p m blocks ty v) e h

unless_ok : (o : Option ImageFault) (p : Program) (blocks : List ImageBlock) (w : Where) (ws : List ℕ)
    → unless_refused p.types (flat_layouts p) blocks o (end_of p.types (flat_layouts p) blocks w) ≡ Ok ws → words_of p.types (flat_layouts p) blocks (end_of p.types (flat_layouts p) blocks w) ≡ Ok ws
unless_ok None p blocks w ws e = e
unless_ok (Some fault) p blocks w ws e = absurd cc

pub given_parts_held : GivenPartsAreHeld
given_parts_held p typed agrees image placed are (Int bits) v d path part h =
    let f = h.1 in
    let words : Represents p.types (flat_layouts p) (image_memory image.blocks) false (Int bits) v part.words =
    subst (Represents p.types (flat_layouts p) (image_memory image.blocks) false (Int bits) v) (sym f.2) (Descends-represents d) in
    record {
      part = v;
      is_part = ap (part_at v) f.0;
      represents = subst (λ (ty : Ty). Represents p.types (flat_layouts p) (image_memory image.blocks) false ty v part.words) (sym f.1) words;
    }
given_parts_held p typed agrees image placed are (Named t) v d path part h = go h.1.end.last.at refl
  where
    end : Where
    end = h.1.end

    go : (at : List ℕ) → end.last.at ≡ at → IsPartThere p image v path part.ty part.words
    go [] none =
        let words = same_Ok (numbers_of end.last.words) part.words (sym (ap (words_there p.types (flat_layouts p) image end) none) ∙ h.1.is_words) in
        let x = paths_lead p typed agrees image placed are t v d path end h.1.is_come part.words (inl (none, sym words)) in
        subst (λ (ty : Ty). IsPartThere p image v path ty part.words) (sym h.1.is_type) x
    go (i ∷ at) within =
        let blocks = image.blocks in
        let layouts = flat_layouts p in
        let m = image_memory blocks in
        let whole = image_whole blocks placed are in
        let root = kept_from 0 image.root in
        let r = then_ok (see layouts blocks t root) (λ s. steps p.types layouts blocks 0 (where_at_root [] s) path) end h.1.is_come in
        let first = arrive p typed agrees blocks m whole v [] [] root r.0 d (root_kept 0 image.root) (root_numbers 0 image.root) refl r.1 in
        let st = both_steps p typed agrees blocks m whole v path [] 0 (where_at_root [] r.0) end (first, arrive_extra p typed agrees blocks m whole v [] r.0 [] first (see_root p typed agrees blocks m whole v t root r.0 r.1)) r.2 in
        let x = st.1 in
        let here = stands_end p typed agrees blocks m whole v end path st.0 x (λ e. let z = sym e ∙ within in cc) in
        let right = rebuilt_words_represent p typed agrees m whole.good blocks (end_of p.types layouts blocks end) x.part end.here.pat end.here.ty here in
        let words : rebuilt_words p.types layouts blocks end ≡ Ok part.words = sym (ap (words_there p.types layouts image end) within) ∙ h.1.is_words in
        let given = unless_ok (refused_below blocks end.last.leaf end.last.words (block_addresses blocks end.last.leaf end.last.words) end.last.at (order_of end.last.leaf)) p blocks end part.words words in
        let rep = right_ok p m blocks end.here.ty x.part (words_of p.types layouts blocks (end_of p.types layouts blocks end)) part.words right given in
        record {
          part = x.part;
          is_part = ap (part_at v) st.0.is_first ∙ part_append (Some v) st.0.to end.last.at ∙ ap (λ o. part_from o end.last.at) st.0.is_part ∙ x.is_part;
          represents = subst (λ (ty : Ty). Represents p.types layouts m false ty x.part part.words) (sym h.1.is_type) rep;
        }
