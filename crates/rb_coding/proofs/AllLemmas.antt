-- Several values, encoded in turn.
use Rattle.std.proofs.Common.{◌≡◌, ℕ, zero, suc, ◌+◌, ◌<◌, ◌≤◌, inl, inr, length, map, take, get_or, List, [], ◌∷◌, ◌++◌, Bool, true, Some, Ok, Err, refl, sym, subst, ap, ◌∙◌, arith, append_assoc, append-nil}
use Rattle.std.specs.Prelude.{slice_get, if◌then◌else◌}
use Rattle.std.proofs.lemmas.Bool.{and_parts}
use Rattle.std.proofs.lemmas.Grind.{flat_map-append}
use Rattle.std.proofs.lemmas.Bool.Decides.{leb_tells}
use Rattle.std.proofs.lemmas.Option.{same_Some}
use Rattle.rb_core.specs.declared.value.Value.{Value}
use Rattle.rb_core.specs.declared.types.Ty.{Ty}
use Rattle.rb_core.specs.declared.types.DataDecl.{DataDecl}
use Rattle.rb_core.specs.declared.outcome.Event.{Event}
use Rattle.rb_core.specs.declared.program.Program.{Program}
use Rattle.rb_core.specs.Values.{is_of_type, all_of_types}
use Rattle.rb_bytes.specs.Memory.{Memory, IsGood, least_multiple}
use Rattle.rb_bytes.specs.Growth.{Grown}
use Rattle.rb_bytes.specs.declared.fault.Full.{Full as Unplaced}
use Rattle.rb_bytes.proofs.GrowthLemmas.{Grown-extends}
use Rattle.rb_layout.specs.declared.layout.Layout.{Layout}
use Rattle.rb_layout.specs.Flattening.{flat_layouts}
use Rattle.rb_rel.specs.Placing.{Laid, Fits, Over, Request, block_before, lay, requests_of, requests_at}
use Rattle.rb_rel.specs.Answers.{making_of, all_makings}
use Rattle.rb_coding.specs.declared.fault.EncodeFault.{EncodeFault}
use Rattle.rb_coding.specs.declared.fault.EncodeFault.TheVariants.{Full, Memory as NoMemory}
use Rattle.rb_coding.specs.Encoding.{laid_before, IsEncoded, AreEncoded, StandApart}
use Rattle.rb_coding.specs.inner.Filling.{behind_all, Progress, Stopped}
use Rattle.rb_coding.proofs.GrowLemmas.{progress_none, progress_trans, progress_fits, stop_after, stop_wider, stopped_over}
use Rattle.rb_coding.proofs.OnlyLemmas.{apart_kept, apart_snoc}
use Rattle.rb_coding.proofs.WaitLemmas.{take_end}

-- What was laid, with more behind it ----------------------------------------------------------------
abbrev full_at : ℕ → ℕ → Request → Unplaced
full_at limit next r = record { next = next; size = r.size; align = r.align; limit = limit }

abbrev lay_by : ℕ → ℕ → Request → List Request → Bool → Laid
lay_by limit next r rs b = if b then block_before (least_multiple next r.align, r.size) (lay limit (least_multiple next r.align + r.size) rs) else Over (full_at limit next r)

abbrev before_by : ℕ → ℕ → Request → List Request → Bool → List (ℕ × ℕ)
before_by limit next r rs b = if b then (least_multiple next r.align, r.size) ∷ laid_before limit (least_multiple next r.align + r.size) rs else []

fits_behind : (b : ℕ × ℕ) (l : Laid) (bs : List (ℕ × ℕ)) (p : ℕ) → block_before b l ≡ Fits bs p → (cs : List (ℕ × ℕ)) × (l ≡ Fits cs p) × (bs ≡ b ∷ cs)
fits_behind b (Fits cs q) bs p e = let x : b ∷ cs ≡ bs = cc in let y : q ≡ p = cc in (cs, ap (Fits cs) y, sym x)
fits_behind b (Over full) bs p e = absurd cc

over_behind : (b : ℕ × ℕ) (l : Laid) (full : Unplaced) → block_before b l ≡ Over full → l ≡ Over full
over_behind b (Fits cs q) full e = absurd cc
over_behind b (Over f) full e = e

pub fits_more : (limit next : ℕ) (rs : List Request) (bs : List (ℕ × ℕ)) (p : ℕ) → lay limit next rs ≡ Fits bs p → (qs : List Request)
    → (lay limit next (rs ++ qs) ≡ behind_all bs (lay limit p qs)) × (laid_before limit next (rs ++ qs) ≡ bs ++ laid_before limit p qs)
fits_more limit next [] bs p e qs =
    let x : [] ≡ bs = cc in
    let y : next ≡ p = cc in
    (ap (λ n. lay limit n qs) y ∙ ap (λ cs. behind_all cs (lay limit p qs)) x, ap (λ n. laid_before limit n qs) y ∙ ap (λ cs. cs ++ laid_before limit p qs) x)
fits_more limit next (r ∷ rs) bs p e qs = elim (leb_tells (least_multiple next r.align + r.size) limit) [
  | inl t ↦
      let b : ℕ × ℕ = (least_multiple next r.align, r.size) in
      let f = fits_behind b (lay limit (least_multiple next r.align + r.size) rs) bs p (sym (ap (lay_by limit next r rs) t.0) ∙ e) in
      let q = fits_more limit (least_multiple next r.align + r.size) rs f.0 p f.1 qs in (
        ap (lay_by limit next r (rs ++ qs)) t.0 ∙ ap (block_before b) q.0 ∙ ap (λ cs. behind_all cs (lay limit p qs)) (sym f.2),
        ap (before_by limit next r (rs ++ qs)) t.0 ∙ ap (λ cs. b ∷ cs) q.1 ∙ ap (λ cs. cs ++ laid_before limit p qs) (sym f.2),
      )
  | inr f ↦ absurd (let h : Over (full_at limit next r) ≡ Fits bs p = sym (ap (lay_by limit next r rs) f.0) ∙ e in cc)
]

pub over_more : (limit next : ℕ) (rs : List Request) (full : Unplaced) → lay limit next rs ≡ Over full → (qs : List Request)
    → (lay limit next (rs ++ qs) ≡ Over full) × (laid_before limit next (rs ++ qs) ≡ laid_before limit next rs)
over_more limit next [] full e qs = absurd cc
over_more limit next (r ∷ rs) full e qs = elim (leb_tells (least_multiple next r.align + r.size) limit) [
  | inl t ↦
      let b : ℕ × ℕ = (least_multiple next r.align, r.size) in
      let o = over_behind b (lay limit (least_multiple next r.align + r.size) rs) full (sym (ap (lay_by limit next r rs) t.0) ∙ e) in
      let q = over_more limit (least_multiple next r.align + r.size) rs full o qs in (
        ap (lay_by limit next r (rs ++ qs)) t.0 ∙ ap (block_before b) q.0,
        ap (before_by limit next r (rs ++ qs)) t.0 ∙ ap (λ cs. b ∷ cs) q.1 ∙ sym (ap (before_by limit next r rs) t.0),
      )
  | inr f ↦ (
    ap (lay_by limit next r (rs ++ qs)) f.0 ∙ sym (ap (lay_by limit next r rs) f.0) ∙ e,
    ap (before_by limit next r (rs ++ qs)) f.0 ∙ sym (ap (before_by limit next r rs) f.0),
  )
]

pub progress_of : (m m' : Memory) (rs : List Request) (bs : List (ℕ × ℕ)) (next : ℕ) → lay m.limit m.next rs ≡ Fits bs next → Grown m m' bs next → Progress m m' rs bs
progress_of m m' rs bs next e g =
    let lays : (qs : List Request) → lay m.limit m.next (rs ++ qs) ≡ behind_all bs (lay m'.limit m'.next qs) = λ qs. (fits_more m.limit m.next rs bs next e qs).0 ∙ ap (λ l. behind_all bs (lay l next qs)) (sym g.limit) ∙ ap (λ n. behind_all bs (lay m'.limit n qs)) (sym g.next) in
    record {
      lays = lays;
      before = λ qs. (fits_more m.limit m.next rs bs next e qs).1 ∙ ap (λ l. bs ++ laid_before l next qs) (sym g.limit) ∙ ap (λ n. bs ++ laid_before m'.limit n qs) (sym g.next);
      grown = subst (λ n. Grown m m' bs n) (sym g.next) g;
    }

stopped_of : (m m' : Memory) (rs : List Request) (full : Unplaced) → lay m.limit m.next rs ≡ Over full → Grown m m' (laid_before m.limit m.next rs) full.next → Stopped m m' rs full
stopped_of m m' rs full e g = record { bs = laid_before m.limit m.next rs; over = λ qs. (over_more m.limit m.next rs full e qs).0; before = λ qs. (over_more m.limit m.next rs full e qs).1; grown = g }

-- Values one behind the other -------------------------------------------------------------------------
module _ (types : List DataDecl) (layouts : List Layout) where
  turn_snoc : (ts : List Ty) (vs : List Value) (t : Ty) (v : Value) → length ts ≡ length vs → all_makings types (vs ++ v ∷ []) (ts ++ t ∷ []) ≡ all_makings types vs ts ++ making_of types v t
  turn_snoc [] [] t v e = append-nil (making_of types v t)
  turn_snoc [] (u ∷ vs) t v e = absurd (omega (arith, e))
  turn_snoc (s ∷ ts) [] t v e = absurd (omega (arith, e))
  turn_snoc (s ∷ ts) (u ∷ vs) t v e = ap (λ xs. making_of types u s ++ xs) (turn_snoc ts vs t v (omega (arith, e))) ∙ sym (append_assoc (making_of types u s) (all_makings types vs ts) (making_of types v t))

  turn_split : (ts : List Ty) (vs : List Value) (i : ℕ) (t : Ty) (v : Value) → slice_get ts i ≡ Some t → slice_get vs i ≡ Some v
      → (rest : List Event) × (all_makings types vs ts ≡ (all_makings types (take i vs) (take i ts) ++ making_of types v t) ++ rest)
  turn_split [] vs i t v a b = absurd cc
  turn_split (s ∷ ts) [] i t v a b = absurd cc
  turn_split (s ∷ ts) (u ∷ vs) zero t v a b = (all_makings types vs ts, ap (λ x. making_of types x s ++ all_makings types vs ts) (same_Some u v b) ∙ ap (λ x. making_of types v x ++ all_makings types vs ts) (same_Some s t a))
  turn_split (s ∷ ts) (u ∷ vs) (suc i) t v a b =
      let r = turn_split ts vs i t v a b in
      (r.0, ap (λ xs. making_of types u s ++ xs) r.1 ∙ sym (append_assoc (making_of types u s) (all_makings types (take i vs) (take i ts) ++ making_of types v t) r.0) ∙ ap (λ xs. xs ++ r.0) (sym (append_assoc (making_of types u s) (all_makings types (take i vs) (take i ts)) (making_of types v t))))

take_snoc : {A : Type 0} (xs : List A) (i : ℕ) (x : A) → slice_get xs i ≡ Some x → take (suc i) xs ≡ take i xs ++ x ∷ []
take_snoc [] i x e = absurd cc
take_snoc (y ∷ xs) zero x e = ap (λ z. z ∷ []) (same_Some y x e)
take_snoc (y ∷ xs) (suc i) x e = ap (λ zs. y ∷ zs) (take_snoc xs i x e)

pub lengths : (types : List DataDecl) (vs : List Value) (ts : List Ty) → all_of_types (map (is_of_type types) vs) ts ≡ true → length vs ≡ length ts
lengths types [] [] e = refl
lengths types [] (t ∷ ts) e = absurd cc
lengths types (v ∷ vs) [] e = absurd cc
lengths types (v ∷ vs) (t ∷ ts) e = ap suc (lengths types vs ts (and_parts (is_of_type types v t) (all_of_types (map (is_of_type types) vs) ts) e).1)

pub typed_nth : (types : List DataDecl) (vs : List Value) (ts : List Ty) → all_of_types (map (is_of_type types) vs) ts ≡ true → (i : ℕ) (v : Value) (t : Ty) → slice_get vs i ≡ Some v → slice_get ts i ≡ Some t → is_of_type types v t ≡ true
typed_nth types [] ts e i v t a b = absurd cc
typed_nth types (u ∷ vs) [] e i v t a b = absurd cc
typed_nth types (u ∷ vs) (s ∷ ts) e zero v t a b = ap (λ x. is_of_type types x t) (sym (same_Some u v a)) ∙ ap (is_of_type types u) (sym (same_Some s t b)) ∙ (and_parts (is_of_type types u s) (all_of_types (map (is_of_type types) vs) ts) e).0
typed_nth types (u ∷ vs) (s ∷ ts) e (suc i) v t a b = typed_nth types vs ts (and_parts (is_of_type types u s) (all_of_types (map (is_of_type types) vs) ts) e).1 i v t a b

pub record EncodingAll (p : Program) (ts : List Ty) (vs : List Value) (old m : Memory) (ws : List ℕ) (i : ℕ) : Type 0 where
  pub bs : List (ℕ × ℕ)
  pub progress : Progress old m (requests_of (flat_layouts p) (all_makings p.types (take i vs) (take i ts))) bs
  pub stand : StandApart p.types (flat_layouts p) m (take i ts) (take i vs) old.next bs m.next ws

pub all_none : (p : Program) (ts : List Ty) (vs : List Value) (m : Memory) → IsGood m → EncodingAll p ts vs m m [] 0
all_none p ts vs m good = record { bs = []; progress = progress_none m good; stand = (refl, refl, refl) }

length_take : {A : Type 0} (xs : List A) (i : ℕ) (x : A) → slice_get xs i ≡ Some x → length (take i xs) ≡ i
length_take [] i x e = absurd cc
length_take (y ∷ xs) zero x e = refl
length_take (y ∷ xs) (suc i) x e = ap suc (length_take xs i x e)

module _ (p : Program) (ts : List Ty) (vs : List Value) (old m m' : Memory) (ws : List ℕ) (i : ℕ) (t : Ty) (v : Value) (is_t : slice_get ts i ≡ Some t) (is_v : slice_get vs i ≡ Some v) (e : EncodingAll p ts vs old m ws i) where
  abbrev layouts : List Layout
  layouts = flat_layouts p

  abbrev so_far : List Request
  so_far = requests_of layouts (all_makings p.types (take i vs) (take i ts))

  abbrev here : List Request
  here = requests_of layouts (making_of p.types v t)

  pub all_more : (w : List ℕ) → IsEncoded p t v m m' (Ok w) → EncodingAll p ts vs old m' (ws ++ w) (i + 1)
  all_more w (blocks, next, laid, grown, shown) =
      let one = progress_of m m' here blocks next laid grown in
      let both_laid = progress_trans old m m' so_far here e.bs blocks e.progress one in
      let z : suc i ≡ i + 1 = omega arith in
      let tt' = take_snoc ts i t is_t in
      let tv = take_snoc vs i v is_v in
      let makings : all_makings p.types (take (suc i) vs) (take (suc i) ts) ≡ all_makings p.types (take i vs) (take i ts) ++ making_of p.types v t =
      ap (λ xs. all_makings p.types xs (take (suc i) ts)) tv ∙ ap (all_makings p.types (take i vs ++ v ∷ [])) tt' ∙ turn_snoc p.types layouts (take i ts) (take i vs) t v (length_take ts i t is_t ∙ sym (length_take vs i v is_v)) in
      let rs : requests_of layouts (all_makings p.types (take (suc i) vs) (take (suc i) ts)) ≡ so_far ++ here = ap (requests_of layouts) makings ∙ flat_map-append (requests_at layouts) (all_makings p.types (take i vs) (take i ts)) (making_of p.types v t) in
      let old_words = apart_kept p.types layouts m m' (Grown-extends m m' blocks next e.progress.grown.good grown) (take i ts) (take i vs) old.next e.bs m.next ws e.stand in
      let new_laid : lay m'.limit m.next here ≡ Fits blocks m'.next = ap (λ limit. lay limit m.next here) grown.limit ∙ laid ∙ ap (Fits blocks) (sym grown.next) in
      let new_words = apart_snoc p.types layouts m' (take i ts) (take i vs) old.next e.bs m.next ws t v blocks m'.next w old_words (record { laid = new_laid; represents = shown }) in
      subst (λ n. EncodingAll p ts vs old m' (ws ++ w) n) z (record {
        bs = e.bs ++ blocks;
        progress = subst (λ xs. Progress old m' xs (e.bs ++ blocks)) (sym rs) both_laid;
        stand = subst (λ xs. StandApart p.types layouts m' xs (take (suc i) vs) old.next (e.bs ++ blocks) m'.next (ws ++ w)) (sym tt') (
            subst (λ xs. StandApart p.types layouts m' (take i ts ++ t ∷ []) xs old.next (e.bs ++ blocks) m'.next (ws ++ w)) (sym tv) new_words);
      })

  pub all_stops : (fault : EncodeFault) → IsEncoded p t v m m' (Err fault) → AreEncoded p ts vs old m' (Err fault)
  all_stops NoMemory h = tt
  all_stops (Full full) h =
      let one = stopped_of m m' here full h.0 h.1 in
      let s = stop_after old m m' so_far here e.bs full e.progress one in
      let r = turn_split p.types layouts ts vs i t v is_t is_v in
      let w = stop_wider old m' (so_far ++ here) (requests_of layouts r.0) full s in
      let whole : (so_far ++ here) ++ requests_of layouts r.0 ≡ requests_of layouts (all_makings p.types vs ts) =
      ap (λ xs. xs ++ requests_of layouts r.0) (sym (flat_map-append (requests_at layouts) (all_makings p.types (take i vs) (take i ts)) (making_of p.types v t)))
      ∙ sym (flat_map-append (requests_at layouts) (all_makings p.types (take i vs) (take i ts) ++ making_of p.types v t) r.0) ∙ ap (requests_of layouts) (sym r.1) in
      stopped_over old m' (requests_of layouts (all_makings p.types vs ts)) full (subst (λ rs. Stopped old m' rs full) whole w)

pub all_done : (p : Program) (ts : List Ty) (vs : List Value) (old m : Memory) (ws : List ℕ) (i : ℕ) → EncodingAll p ts vs old m ws i → length vs ≤ i → length vs ≡ length ts → AreEncoded p ts vs old m (Ok ws)
all_done p ts vs old m ws i e le same =
    let a = take_end vs i le in
    let b = take_end ts i (omega (arith, le, same)) in
    let progress : Progress old m (requests_of (flat_layouts p) (all_makings p.types vs ts)) e.bs = subst (λ xs. Progress old m (requests_of (flat_layouts p) (all_makings p.types vs xs)) e.bs) b (subst (λ xs. Progress old m (requests_of (flat_layouts p) (all_makings p.types xs (take i ts))) e.bs) a e.progress) in (
      e.bs,
      m.next,
      progress_fits old m (requests_of (flat_layouts p) (all_makings p.types vs ts)) e.bs progress,
      progress.grown,
      subst (λ xs. StandApart p.types (flat_layouts p) m ts xs old.next e.bs m.next ws) a (subst (λ xs. StandApart p.types (flat_layouts p) m xs (take i vs) old.next e.bs m.next ws) b e.stand),
    )

pub nth_is : (ts : List Ty) (i : ℕ) (d : Ty) → i < length ts → slice_get ts i ≡ Some (get_or ts i d)
nth_is [] i d lt = absurd (omega (arith, lt))
nth_is (t ∷ ts) zero d lt = refl
nth_is (t ∷ ts) (suc i) d lt = nth_is ts i d (omega (arith, lt))
