-- All functions: each call of the new ones is no dearer.
use Rattle.std.proofs.Common.{◌≡◌, ℕ, zero, suc, ◌-◌, ◌<◌, ◌≤◌, inl, inr, List, [], ◌∷◌, ◌++◌, length, replicate, Some, refl, sym, subst, ap, ◌∙◌, arith, length-append}
use Rattle.std.proofs.lemmas.List.{length-replicate, get_or_append_left}
use Rattle.std.proofs.lemmas.Option.{slice_get_within}
use Rattle.std.specs.Prelude.{slice_get, slice_index}
use Rattle.rb_bytes.specs.Memory.{Memory}
use Rattle.rb_target.specs.Meaning.{World, CallEnd, Callee, from, enter, body_in, body_of, first_slots, slots_in, after_one_call, with_left}
use Rattle.rb_target.specs.Laws.{Law}
use Rattle.rb_target.specs.Validity.{EndsInReturn, IsValid, IsValidFun}
use Rattle.rb_target.specs.declared.outcome.End.TheVariants.{Spent}
use Rattle.rb_target.specs.declared.instr.Instr.{Instr}
use Rattle.rb_target.specs.declared.instr.Instr.TheVariants.{Return}
use Rattle.rb_target.specs.declared.code.CodeFun.{CodeFun}
use Rattle.rb_target.proofs.Unrolling.{body_unrolls}
use Rattle.rb_trim.specs.declared.fact.Fact.{Fact}
use Rattle.rb_trim.specs.declared.hints.Hints.{Hints}
use Rattle.rb_trim.specs.Trimming.{IsNoDearer, IsTrimOf}
use Rattle.rb_trim.specs.inner.Facts.{Hold}
use Rattle.rb_trim.specs.inner.Moving.{Agree, KeepParams, facts_at, place, IsTrimmed}
use Rattle.rb_trim.proofs.Outcomes.{Near, over_near}
use Rattle.rb_trim.proofs.Slots.{zeros}
use Rattle.rb_trim.proofs.Acting.{CallsNear}
use Rattle.rb_trim.proofs.Walking.{walk}

-- Slots before the first instruction

pub past : (xs : List ℕ) (k : ℕ) → length xs ≤ k → slice_index xs k ≡ 0
past [] k le = refl
past (x ∷ xs) zero le = absurd (omega (arith, le))
past (x ∷ xs) (suc k) le = past xs k (omega (arith, le))

-- behind the words all slots begin as 0
zero_behind : (words : List ℕ) (n k : ℕ) → length words ≤ k → slice_index (words ++ replicate {A = ℕ} n 0) k ≡ 0
zero_behind [] n k le = zeros n k
zero_behind (x ∷ xs) n zero le = absurd (omega (arith, le))
zero_behind (x ∷ xs) n (suc k) le = zero_behind xs n k (omega (arith, le))

begin_agree : (h : Hints) (params : ℕ) (words : List ℕ) (n n' : ℕ) → KeepParams h params → length words ≡ params → Agree h 0 (words ++ replicate {A = ℕ} n 0) (words ++ replicate {A = ℕ} n' 0)
begin_agree h params words n n' keep same k read =
    elim (keep k (omega (arith, read.0))) [
      | inl low ↦
          let lt : k < length words = omega (arith, same, low.0) in
          ap (λ j. slice_index (words ++ replicate {A = ℕ} n' 0) j) low.1
          ∙ get_or_append_left words (replicate {A = ℕ} n' 0) 0 k lt ∙ sym (get_or_append_left words (replicate {A = ℕ} n 0) 0 k lt)
      | inr high ↦
          zero_behind words n' (slice_index h.names k) (omega (arith, same, high.1)) ∙ sym (zero_behind words n k (omega (arith, same, high.0)))
    ]

long_enough : (words : List ℕ) (n : ℕ) → n ≤ length (words ++ replicate {A = ℕ} (n - length words) 0)
long_enough words n = omega (arith, length-append words (replicate {A = ℕ} (n - length words) 0), length-replicate {A = ℕ} (n - length words) 0)

some_instr : (body : List Instr) → EndsInReturn body → 0 < length body
some_instr body ends = slice_first body (slice_get_within body (length body - 1) (Return ends.0) ends.1)
  where
    slice_first : (b : List Instr) → length b - 1 < length b → 0 < length b
    slice_first b lt = omega (arith, lt)

one_call_near : (n : ℕ) (v w : World) (g h : World → CallEnd) → Near v w → ((l : ℕ) → IsNoDearer (g (with_left v l)) (h (with_left w l))) → IsNoDearer (after_one_call n v g) (after_one_call n w h)
one_call_near zero v w g h n e = over_near Spent v w n
one_call_near (suc l) v w g h n e = e l

near_left : (v w : World) (l : ℕ) → Near v w → Near (with_left v l) (with_left w l)
near_left v w l n = record { left = refl; memory = n.memory; switches = n.switches; taken = n.taken }

module _ (funs funs' : List CodeFun) (valid : IsValid funs) (valid' : IsValid funs')
    (pairs : (g : ℕ) (f : CodeFun) → slice_get funs g ≡ Some f → (q : CodeFun) × (slice_get funs' g ≡ Some q) × IsTrimmed f q) where
  -- one function, over callees that are near
  fun_near : (g : ℕ) (f : CodeFun) → slice_get funs g ≡ Some f → (new old : Callee) → CallsNear funs new old → (words : List ℕ) → length words ≡ f.params → (v w : World) → Near v w
      → IsNoDearer (from (body_of funs' g) new 0 (first_slots funs' g words) v) (from (body_of funs g) old 0 (first_slots funs g words) w)
  fun_near g f is new old calls words same v w near =
      let pair = pairs g f is in
      let q = pair.0 in
      let t : IsTrimmed f q = pair.2 in
      let fine : IsValidFun funs f = valid.each g f is in
      let body : body_of funs g ≡ f.body = ap body_in is in
      let body' : body_of funs' g ≡ q.body = ap body_in pair.1 in
      let slots : first_slots funs g words ≡ words ++ replicate {A = ℕ} (f.slots - length words) 0 = ap (λ o. words ++ replicate {A = ℕ} (slots_in o - length words) 0) is in
      let slots' : first_slots funs' g words ≡ words ++ replicate {A = ℕ} (q.slots - length words) 0 = ap (λ o. words ++ replicate {A = ℕ} (slots_in o - length words) 0) pair.1 in
      let law : Law f.body old (from f.body old) = subst (λ b. Law b old (from b old)) body (body_unrolls funs valid g old) in
      let law' : Law q.body new (from q.body new) = subst (λ b. Law b new (from b new)) body' (body_unrolls funs' valid' g new) in
      let s = words ++ replicate {A = ℕ} (f.slots - length words) 0 in
      let s' = words ++ replicate {A = ℕ} (q.slots - length words) 0 in
      let walked : IsNoDearer (from q.body new (place t.hints 0) s' v) (from f.body old 0 s w) =
      (walk funs funs' f q fine (valid'.each g q pair.1) t.hints t.apart t.steps new old calls law law'
      (length f.body) 0 (omega arith) (some_instr f.body fine.ends)).0 t.begins.2 s' v (long_enough words q.slots) s w near (long_enough words f.slots)
      (begin_agree t.hints f.params words (f.slots - length words) (q.slots - length words) t.params same)
      (nothing_known s w.memory (facts_at t.hints 0) t.begins.1) in
      subst (λ b. IsNoDearer (from b new 0 (first_slots funs' g words) v) (from (body_of funs g) old 0 (first_slots funs g words) w)) (sym body')
      (subst (λ b. IsNoDearer (from q.body new 0 (first_slots funs' g words) v) (from b old 0 (first_slots funs g words) w)) (sym body)
      (subst (λ k. IsNoDearer (from q.body new 0 k v) (from f.body old 0 (first_slots funs g words) w)) (sym slots')
      (subst (λ k. IsNoDearer (from q.body new 0 s' v) (from f.body old 0 k w)) (sym slots)
      (subst (λ n. IsNoDearer (from q.body new n s' v) (from f.body old 0 s w)) t.begins.0 walked))))
    where
      nothing_known : (s : List ℕ) (m : Memory) (facts : List Fact) → facts ≡ [] → Hold s m facts
      nothing_known s m facts e = subst (λ fs. Hold s m fs) (sym e) (λ fact c. absurd (omega (arith, c.1)))

  pub enter_near : (d g : ℕ) (f : CodeFun) → slice_get funs g ≡ Some f → (words : List ℕ) → length words ≡ f.params → (v w : World) → Near v w
      → IsNoDearer (enter funs' d g words v) (enter funs d g words w)
  unfolding enter
  enter_near zero g f is words same v w near = over_near Spent v w near
  enter_near (suc d) g f is words same v w near =
      let calls : CallsNear funs (enter funs' d) (enter funs d) = record { by = enter_near d } in
      let go' : World → CallEnd = λ u. from (body_of funs' g) (enter funs' d) 0 (first_slots funs' g words) u in
      let go : World → CallEnd = λ u. from (body_of funs g) (enter funs d) 0 (first_slots funs g words) u in
      subst (λ n. IsNoDearer (after_one_call n v go') (after_one_call w.left w go)) (sym near.left)
      (one_call_near w.left v w go' go near
      (λ l. fun_near g f is (enter funs' d) (enter funs d) calls words same (with_left v l) (with_left w l) (near_left v w l near)))

  pub trim_of : length funs' ≡ length funs → IsTrimOf funs funs'
  trim_of count = record {
    count = count;
    heads = λ g f is. let pair = pairs g f is in (pair.0, pair.1, pair.2.head);
    runs = λ g f n ws m is same. enter_near n g f is ws same _ _ (record { left = refl; memory = refl; switches = omega arith; taken = omega arith });
  }

-- code is no dearer than itself
pub trim_same : (funs : List CodeFun) → IsTrimOf funs funs
trim_same funs = record {
  count = refl;
  heads = λ g f is. (f, is, record { name = refl; params = refl; results = refl });
  runs = λ g f n ws m is same. record { ended = refl; left = refl; memory = refl; switches = omega arith; taken = omega arith };
}
