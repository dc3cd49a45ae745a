-- Walks along a path, by the subvalues that they come to: all of them are on the path, and those on the path are among them.
use Rattle.std.proofs.Common.{◌≡◌, ℕ, ◌+◌, ◌++◌, inl, inr, List, [], ◌∷◌, length, Option, Some, None, Result, Ok, Err, refl, sym, subst, ap, ◌∙◌, append-nil, append_assoc, arith}
use Rattle.std.specs.Prelude.{◌⊎◌, slice_get}
use Rattle.std.proofs.lemmas.Option.{same_Some}
use Rattle.rb_core.specs.declared.types.DataDecl.{DataDecl}
use Rattle.rb_layout.specs.declared.layout.Layout.{Layout}
use Rattle.rb_image_text.specs.declared.fault.ImageFault.{ImageFault}
use Rattle.rb_image_text.specs.declared.fault.ImageFault.TheVariants.{NoSuchPart}
use Rattle.rb_image_text.specs.declared.image.ImageBlock.{ImageBlock}
use Rattle.rb_image.specs.declared.kept.Kept.{Kept}
use Rattle.rb_image.specs.Fields.{Position, field_of}
use Rattle.rb_image.specs.Splits.{and_then, leaf_at, or_fault}
use Rattle.rb_image.proofs.ExaminedParts.{then_ok}
use Rattle.rb_image.proofs.FallLemmas.{same_Ok}
use Rattle.rb_image.proofs.SpotLemmas.{In, in_left, in_right}
use Rattle.rb_peek.specs.Walks.{Waypoint, Where, where_at_root, layout_at, leaf_or_none, where_after_step, open_data, see, where_settled, step, steps, unless, end_of_path, words_on}
use Rattle.rb_peek.specs.inner.Checking.{all_seen}

abbrev pub Walks : Type 0
Walks = Result Where ImageFault

abbrev pub Sees : Type 0
Sees = Result Waypoint ImageFault

abbrev pub Finds : Type 0
Finds = Result (List Kept) ImageFault

-- Results ------------------------------------------------------------------------------------
field_found : {A : Type 0} (o : Option A) (fault : ImageFault) (x : A) → ◌≡◌ {A = Result A ImageFault} (or_fault o fault) (Ok x) → o ≡ Some x
field_found None fault x e = absurd cc
field_found (Some y) fault x e = ap Some (same_Ok y x e)

pub unless_err : (o : Option ImageFault) (ws : List Kept) (fault : ImageFault) → ◌≡◌ {A = Finds} (unless o ws) (Err fault) → o ≡ Some fault
unless_err None ws fault e = absurd cc
unless_err (Some f) ws fault e = let same : f ≡ fault = cc in ap Some same

pub same_walk : (a b : ImageFault) → ◌≡◌ {A = Walks} (Err a) (Err b) → a ≡ b
same_walk a b e = cc

-- Subvalues ----------------------------------------------------------------------------------
module _ (layouts : List Layout) (m : List ImageBlock) where
  pub record IsSeen (t : ℕ) (ws : List Kept) (s : Waypoint) : Type 0 where
    pub ty : s.ty ≡ t
    pub words : s.words ≡ ws
    pub at : s.at ≡ []

  abbrev seen_with : ℕ → List Kept → ℕ → Waypoint
  seen_with t ws n = record { ty = t; words = ws; leaf = leaf_or_none (slice_get (layout_at layouts t).leaves n); at = [] }

  pub see_is : (t : ℕ) (ws : List Kept) (s : Waypoint) → ◌≡◌ {A = Sees} (see layouts m t ws) (Ok s) → IsSeen t ws s
  see_is t ws s e =
      let r = then_ok (leaf_at (layout_at layouts t).tree m ws) (λ n. Ok (seen_with t ws n)) s e in
      let same : seen_with t ws r.0 ≡ s = same_Ok (seen_with t ws r.0) s r.2 in
      record { ty = ap (λ (x : Waypoint). x.ty) (sym same); words = ap (λ (x : Waypoint). x.words) (sym same); at = ap (λ (x : Waypoint). x.at) (sym same) }

  -- the fault of its splits
  pub see_err : (t : ℕ) (ws : List Kept) (fault : ImageFault) → ◌≡◌ {A = Sees} (see layouts m t ws) (Err fault)
      → ◌≡◌ {A = Result ℕ ImageFault} (leaf_at (layout_at layouts t).tree m ws) (Err fault)
  see_err t ws fault e = go (leaf_at (layout_at layouts t).tree m ws) e
    where
      go : (r : Result ℕ ImageFault) → ◌≡◌ {A = Sees} (and_then r (λ n. Ok (seen_with t ws n))) (Err fault) → ◌≡◌ {A = Result ℕ ImageFault} r (Err fault)
      go (Err f) h = let same : f ≡ fault = cc in ap (λ (x : ImageFault). Err x) same
      go (Ok n) h = absurd cc

-- Steps --------------------------------------------------------------------------------------
module _ (types : List DataDecl) (layouts : List Layout) (m : List ImageBlock) where
  -- a step ends inside the leaf, or at a subvalue that it enters
  pub record IsInside (w : Where) (i : ℕ) (v : Where) (here : Position) : Type 0 where
    pub closed : open_data here ≡ None
    pub is : v ≡ where_after_step w i here

  pub record Enters (w : Where) (i : ℕ) (v : Where) (here : Position) : Type 0 where
    pub ty : ℕ
    pub words : List Kept
    pub next : Waypoint
    pub is_data : open_data here ≡ Some ty
    pub is_words : ◌≡◌ {A = Finds} (words_on layouts m (where_after_step w i here).last ty) (Ok words)
    pub is_next : ◌≡◌ {A = Sees} (see layouts m ty words) (Ok next)
    pub is : v ≡ where_at_root (w.before ++ (where_after_step w i here).last ∷ []) next

  pub record Stepped (w : Where) (i : ℕ) (v : Where) : Type 0 where
    pub here : Position
    pub is_field : field_of types w.here.pat i ≡ Some here
    pub how : IsInside w i v here ⊎ Enters w i v here

  settled_is : (w : Where) (i : ℕ) (v : Where) (here : Position) (o : Option ℕ) → open_data here ≡ o
      → ◌≡◌ {A = Walks} (where_settled layouts m (where_after_step w i here) o) (Ok v) → IsInside w i v here ⊎ Enters w i v here
  settled_is w i v here None is e = inl (record { closed = is; is = sym (same_Ok (where_after_step w i here) v e) })
  settled_is w i v here (Some t) is e =
      let a = then_ok (words_on layouts m u.last t) (λ ws. and_then (see layouts m t ws) on) v e in
      let b = then_ok (see layouts m t a.0) on v a.2 in
      inr (record {
        ty = t;
        words = a.0;
        next = b.0;
        is_data = is;
        is_words = a.1;
        is_next = b.1;
        is = sym (same_Ok (where_at_root (u.before ++ u.last ∷ []) b.0) v b.2);
      })
    where
      u : Where
      u = where_after_step w i here

      on : Waypoint → Walks
      on s = Ok (where_at_root (u.before ++ u.last ∷ []) s)

  pub stepped : (k : ℕ) (w : Where) (i : ℕ) (v : Where) → ◌≡◌ {A = Walks} (step types layouts m k w i) (Ok v) → Stepped w i v
  stepped k w i v e =
      let r = then_ok (or_fault (field_of types w.here.pat i) (NoSuchPart k)) (λ pos. where_settled layouts m (where_after_step w i pos) (open_data pos)) v e in
      record { here = r.0; is_field = field_found (field_of types w.here.pat i) (NoSuchPart k) r.0 r.1; how = settled_is w i v r.0 (open_data r.0) refl r.2 }

  steps_append : (first rest : List ℕ) (k : ℕ) (w : Where)
      → ◌≡◌ {A = Walks} (steps types layouts m k w (first ++ rest)) (and_then (steps types layouts m k w first) (λ v. steps types layouts m (k + length first) v rest))
  steps_append [] rest k w = let z : k ≡ k + 0 = omega arith in ap (λ n. steps types layouts m n w rest) z
  steps_append (i ∷ first) rest k w = go (steps_append first rest (k + 1)) (step types layouts m k w i)
    where
      go : ((v : Where) → ◌≡◌ {A = Walks} (steps types layouts m (k + 1) v (first ++ rest)) (and_then (steps types layouts m (k + 1) v first) (λ u. steps types layouts m (k + 1 + length first) u rest)))
          → (r : Walks) → ◌≡◌ {A = Walks} (and_then r (λ v. steps types layouts m (k + 1) v (first ++ rest)))
          (and_then (and_then r (λ v. steps types layouts m (k + 1) v first)) (λ v. steps types layouts m (k + length (i ∷ first)) v rest))
      go more (Err fault) = refl
      go more (Ok v) =
          let up : k + 1 + length first ≡ k + length (i ∷ first) = omega arith in
          more v
          ∙ ap (λ n. and_then (steps types layouts m (k + 1) v first) (λ u. steps types layouts m n u rest)) up

  -- further along the path
  pub walked_on : (t : ℕ) (ws : List Kept) (first rest : List ℕ) (w : Where) → ◌≡◌ {A = Walks} (end_of_path types layouts m t ws first) (Ok w)
      → ◌≡◌ {A = Walks} (end_of_path types layouts m t ws (first ++ rest)) (steps types layouts m (length first) w rest)
  walked_on t ws first rest w e = go (see layouts m t ws) e
    where
      go : (r : Sees) → ◌≡◌ {A = Walks} (and_then r (λ s. steps types layouts m 0 (where_at_root [] s) first)) (Ok w)
          → ◌≡◌ {A = Walks} (and_then r (λ s. steps types layouts m 0 (where_at_root [] s) (first ++ rest))) (steps types layouts m (length first) w rest)
      go (Err fault) h = absurd cc
      go (Ok s) h =
          let z : 0 + length first ≡ length first = omega arith in
          steps_append first rest 0 (where_at_root [] s) ∙ ap (λ (r : Walks). and_then r (λ v. steps types layouts m (0 + length first) v rest)) h
          ∙ ap (λ n. steps types layouts m n w rest) z

  -- by one step
  pub walked_more : (t : ℕ) (ws : List Kept) (first : List ℕ) (i : ℕ) (w v : Where) → ◌≡◌ {A = Walks} (end_of_path types layouts m t ws first) (Ok w)
      → ◌≡◌ {A = Walks} (step types layouts m (length first) w i) (Ok v) → ◌≡◌ {A = Walks} (end_of_path types layouts m t ws (first ++ i ∷ [])) (Ok v)
  walked_more t ws first i w v here next =
      walked_on t ws first (i ∷ []) w here ∙ ap (λ (r : Walks). and_then r (λ u. steps types layouts m (length first + 1) u [])) next

  -- What a walk keeps ------------------------------------------------------------------------

  -- one of the subvalues is this one, and the path inside its leaf begins with the one here
  pub record Covers (all : List Waypoint) (s : Waypoint) : Type 0 where
    pub more : List ℕ
    pub found : Waypoint
    pub there : In found all
    pub is : found ≡ record s { at = s.at ++ more }

  pub covered : (all : List Waypoint) (s : Waypoint) → In s all → Covers all s
  covered all s there = record { more = []; found = s; there = there; is = ap (λ (p : List ℕ). record s { at = p }) (sym (append-nil s.at)) }

  last_in : (w : Where) → In w.last (all_seen w)
  last_in w = in_right w.last w.before (w.last ∷ []) (inl refl)

  before_in : (w : Where) (s : Waypoint) → In s w.before → In s (all_seen w)
  before_in w s h = in_left s w.before (w.last ∷ []) h

  pub record Keeps (w end : Where) : Type 0 where
    pub last : Covers (all_seen end) w.last
    pub before : (s : Waypoint) → In s w.before → In s (all_seen end)

  pub kept : (rest : List ℕ) (k : ℕ) (w end : Where) → ◌≡◌ {A = Walks} (steps types layouts m k w rest) (Ok end) → Keeps w end
  kept [] k w end e =
      let same : w ≡ end = same_Ok w end e in
      subst (Keeps w) same (record { last = covered (all_seen w) w.last (last_in w); before = before_in w })
  kept (i ∷ rest) k w end e =
      let r = then_ok (step types layouts m k w i) (λ v. steps types layouts m (k + 1) v rest) end e in
      let s = stepped k w i r.0 r.1 in
      let keeps = kept rest (k + 1) r.0 end r.2 in
      elim s.how [
        | inl inside ↦
            let after : Keeps (where_after_step w i s.here) end = subst (λ v. Keeps v end) inside.is keeps in
            record {
              last = record {
                more = i ∷ after.last.more;
                found = after.last.found;
                there = after.last.there;
                is = after.last.is ∙ ap (λ (p : List ℕ). record w.last { at = p }) (append_assoc w.last.at (i ∷ []) after.last.more);
              };
              before = after.before;
            }
        | inr enters ↦
            let after : Keeps (where_at_root (w.before ++ (where_after_step w i s.here).last ∷ []) enters.next) end = subst (λ v. Keeps v end) enters.is keeps in
            let passed = (where_after_step w i s.here).last in
            record {
              last = record { more = i ∷ []; found = passed; there = after.before passed (in_right passed w.before (passed ∷ []) (inl refl)); is = refl };
              before = λ x h. after.before x (in_left x w.before (passed ∷ []) h);
            }
      ]

  -- the subvalue from whose leaf a step goes on
  pub step_kept : (rest : List ℕ) (k : ℕ) (w : Where) (i : ℕ) (here : Position) (end : Where) → ◌≡◌ {A = Walks} (steps types layouts m k w (i ∷ rest)) (Ok end)
      → field_of types w.here.pat i ≡ Some here → Covers (all_seen end) (where_after_step w i here).last
  step_kept rest k w i here end e field =
      let r = then_ok (step types layouts m k w i) (λ v. steps types layouts m (k + 1) v rest) end e in
      let s = stepped k w i r.0 r.1 in
      let keeps = kept rest (k + 1) r.0 end r.2 in
      let same : s.here ≡ here = same_Some s.here here (sym s.is_field ∙ field) in
      subst (λ (p : Position). Covers (all_seen end) (where_after_step w i p).last) same (elim s.how [
        | inl inside ↦ (subst (λ v. Keeps v end) inside.is keeps).last
        | inr enters ↦
            let after : Keeps (where_at_root (w.before ++ (where_after_step w i s.here).last ∷ []) enters.next) end = subst (λ v. Keeps v end) enters.is keeps in
            let passed = (where_after_step w i s.here).last in
            covered (all_seen end) passed (after.before passed (in_right passed w.before (passed ∷ []) (inl refl)))
      ])

  -- the subvalue that a step enters
  pub record Entered (end : Where) (t : ℕ) (ws : List Kept) : Type 0 where
    pub seen : Waypoint
    pub is_seen : ◌≡◌ {A = Sees} (see layouts m t ws) (Ok seen)
    pub covers : Covers (all_seen end) seen

  pub step_enters : (rest : List ℕ) (k : ℕ) (w : Where) (i : ℕ) (here : Position) (end : Where) (t : ℕ) (ws : List Kept)
      → ◌≡◌ {A = Walks} (steps types layouts m k w (i ∷ rest)) (Ok end) → field_of types w.here.pat i ≡ Some here → open_data here ≡ Some t
      → ◌≡◌ {A = Finds} (words_on layouts m (where_after_step w i here).last t) (Ok ws) → Entered end t ws
  step_enters rest k w i here end t ws e field opened words =
      let r = then_ok (step types layouts m k w i) (λ v. steps types layouts m (k + 1) v rest) end e in
      let s = stepped k w i r.0 r.1 in
      let keeps = kept rest (k + 1) r.0 end r.2 in
      let same : s.here ≡ here = same_Some s.here here (sym s.is_field ∙ field) in
      elim s.how [
        | inl inside ↦ absurd (let none : ◌≡◌ {A = Option ℕ} None (Some t) = sym inside.closed ∙ ap open_data same ∙ opened in cc)
        | inr enters ↦
            let same_ty : enters.ty ≡ t = same_Some enters.ty t (sym enters.is_data ∙ ap open_data same ∙ opened) in
            let same_words : enters.words ≡ ws = same_Ok enters.words ws
            (sym enters.is_words ∙ ap (λ (p : Position). words_on layouts m (where_after_step w i p).last enters.ty) same ∙ ap (words_on layouts m (where_after_step w i here).last) same_ty ∙ words) in
            record {
              seen = enters.next;
              is_seen = ap (λ n. see layouts m n ws) (sym same_ty) ∙ ap (see layouts m enters.ty) (sym same_words) ∙ enters.is_next;
              covers = (subst (λ v. Keeps v end) enters.is keeps).last;
            }
      ]
