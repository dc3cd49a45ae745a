-- Fragments of code, one behind the other.
use Rattle.std.proofs.Common.{◌≡◌, ℕ, ◌+◌, ◌<◌, ◌≤◌, Bool, List, [], ◌∷◌, ◌++◌, length, Some, refl, sym, subst, ap, ◌∙◌, arith, length-append, get_or-set_same}
use Rattle.std.specs.Prelude.{slice_get, slice_set}
use Rattle.rb_core.specs.declared.value.Value.{Value}
use Rattle.rb_core.specs.declared.types.Ty.{Ty}
use Rattle.rb_core.specs.declared.outcome.Outcome.{Outcome}
use Rattle.rb_core.specs.Meaning.{Calls, then_do, value_outcome}
use Rattle.rb_bytes.specs.Memory.{Memory}
use Rattle.rb_bytes.specs.Laws.{Extends}
use Rattle.rb_target.specs.declared.instr.Instr.{Instr}
use Rattle.rb_target.specs.Meaning.{World, Next, Callee, act, taken, slots_at}
use Rattle.rb_target.specs.Sheet.{Sheet, with_more, with_slot}
use Rattle.rb_bytes.proofs.GrowthLemmas.{Grown-extends}
use Rattle.rb_fragment.proofs.Laying.{bind, does_map, unit}
use Rattle.rb_fragment.specs.Adding.{Adds}
use Rattle.rb_fragment.specs.Fragments.{Comes, Fragment}
use Rattle.rb_fragment.specs.Owing.{Does}
use Rattle.rb_fragment.specs.Plan.{Plan, Rep}
use Rattle.rb_target.proofs.Growing.{Agrees-part, Grows-refl, Keeps-refl, Keeps-set, Keeps-trans, get-seam}
use Rattle.rb_target.specs.Growth.{Keeps, Nowhere}

module _ (plan : Plan) (clean : Bool) (calls : Calls) where
  -- what holds before may be said otherwise
  pub weaken : (a b : Sheet) (Pre Pre' : List ℕ → Memory → Type 0) (o : ℕ → Outcome) (t : Ty) (xs : List ℕ)
      → ((s : List ℕ) (m : Memory) → Pre' s m → Pre s m) → Fragment plan clean calls a b Pre o t xs → Fragment plan clean calls a b Pre' o t xs
  weaken a b Pre Pre' o t xs f i = record {
    runs = λ final callee next law rel agrees s w long good pre. i.runs final callee next law rel agrees s w long good (f s w.memory pre);
  }

  -- no code
  pub nothing : (a : Sheet) (Pre : List ℕ → Memory → Type 0) (o : ℕ → Outcome) (t : Ty) (xs : List ℕ)
      → ((s : List ℕ) (m : Memory) (left : ℕ) → Pre s m → (v : Value) × (o left ≡ value_outcome v left) × Rep plan m clean t v (slots_at s xs))
      → Fragment plan clean calls a a Pre o t xs
  nothing a Pre o t xs does = record {
    runs = λ final callee next law rel agrees s w long good pre.
        let out = next (length a.code) s w in
        let r = does s w.memory w.left pre in
        let Ok = Comes plan clean out next (length a.code) a.slots t xs s in
        subst (λ k. Does plan w.switches out w.memory k Ok) (sym r.1)
        (unit plan out Ok w.switches w.memory w.left w r.0 good refl refl (omega arith) (s, refl, Keeps-refl a.slots s, r.2));
  }

  -- one instruction that writes one fresh slot
  pub one : (a : Sheet) (i : Instr) (Pre : List ℕ → Memory → Type 0) (o : ℕ → Outcome) (t : Ty)
      → ((next : Next) (callee : Callee) (pc : ℕ) (s : List ℕ) (w : World) → Pre s w.memory
      → (v : Value) × (word : ℕ) × (act i next callee pc s w ≡ next (pc + 1) (slice_set s a.slots word) w) × (o w.left ≡ value_outcome v w.left) × Rep plan w.memory clean t v (word ∷ []))
      → Fragment plan clean calls a (with_more (with_slot a) i) Pre o t (a.slots ∷ [])
  one a i Pre o t does = record {
    runs = λ final callee next law rel agrees s w long good pre.
        let code = a.code ++ i ∷ [] in
        let len : length code ≡ length a.code + 1 = length-append a.code (i ∷ []) in
        let lo : length a.code ≤ length a.code = omega arith in
        let hi : length a.code < length code = omega (arith, len) in
        let here : slice_get final (length a.code) ≡ Some i = agrees.same (length a.code) lo hi (λ x. x) ∙ get-seam a.code i [] in
        let out = next (length a.code) s w in
        let r = does next callee (length a.code) s (taken w) pre in
        let s' = slice_set s a.slots r.1 in
        let inside : a.slots < length s = omega (arith, long) in
        let ran : out ≡ next (length code) s' (taken w) = law.step (length a.code) i s w here ∙ r.2 ∙ ap (λ k. next k s' (taken w)) (sym len) in
        let Ok = Comes plan clean out next (length code) a.slots t (a.slots ∷ []) s in
        subst (λ k. Does plan w.switches out w.memory k Ok) (sym r.3)
        (unit plan out Ok w.switches w.memory w.left (taken w) r.0 good refl refl (omega arith)
        (s', ran, Keeps-set a.slots s a.slots r.1 (omega arith), subst (λ u. Rep plan w.memory clean t r.0 (u ∷ [])) (sym (get_or-set_same s a.slots r.1 0 inside)) r.4));
  }

  module _ (a b c : Sheet) (t u : Ty) (xs ys : List ℕ) (Pre : List ℕ → Memory → Type 0) (Mid : Value → List ℕ → Memory → Type 0) (o : ℕ → Outcome) (go : Value → ℕ → Outcome) (ga : Adds plan a b) (gb : Adds plan b c)
      (first : Fragment plan clean calls a b Pre o t xs) (second : (v : Value) → Fragment plan clean calls b c (Mid v) (go v) u ys)
      (between : (v : Value) (s s' : List ℕ) (m m' : Memory) → Extends m m' → Keeps a.slots s s' → Rep plan m' clean t v (slots_at s' xs) → Pre s m → Mid v s' m') where
    -- a fragment, and then one that depends on its value
    pub seq : Fragment plan clean calls a c Pre (λ left. then_do (o left) go) u ys
    seq = record {
      runs = λ final callee next law rel agrees s w long good pre.
          let out = next (length a.code) s w in
          let l1 = ga.grows.longer in let l2 = gb.grows.longer in
          let long1 : b.slots ≤ length s = omega (arith, gb.more, long) in
          let agrees1 = Agrees-part final c.code b.code (length a.code) (length c.code) (length a.code) (length b.code) Nowhere Nowhere gb.grows (omega arith) (omega (arith, l2)) (omega arith) (λ pc lo hi x. x) agrees in
          let agrees2 = Agrees-part final c.code c.code (length a.code) (length c.code) (length b.code) (length c.code) Nowhere Nowhere (Grows-refl c.code) (omega (arith, l1)) (omega arith) (omega arith) (λ pc lo hi x. x) agrees in
          let d1 = first.runs final callee next law rel agrees1 s w long1 good pre in
          let Ok = Comes plan clean out next (length c.code) a.slots u ys s in
          bind plan out Ok (Comes plan clean out next (length b.code) a.slots t xs s) w.switches w.memory (o w.left) go d1
          (λ v w1 bs p g mid.
          let s1 = mid.0 in
          let long2 : c.slots ≤ length s1 = omega (arith, mid.2.long, long) in
          let ext = Grown-extends w.memory w1.memory bs p good g in
          does_map plan w1.switches w1.switches out (next (length b.code) s1 w1) Ok (Comes plan clean (next (length b.code) s1 w1) next (length c.code) b.slots u ys s1) w1.memory (go v w1.left) (omega arith) mid.1
          (λ x w' r. (r.0, mid.1 ∙ r.1, Keeps-trans a.slots b.slots s s1 r.0 ga.more mid.2 r.2, r.3))
          ((second v).runs final callee next law rel agrees2 s1 w1 long2 g.good (between v s s1 w.memory w1.memory ext mid.2 mid.3 pre)));
    }
