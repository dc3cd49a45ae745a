-- Code that does what other code does, no dearer, refines what that refines, with as few switches.
use Rattle.std.proofs.Common.{◌≡◌, ℕ, ◌+◌, Bool, List, [], ◌∷◌, length, Some, sym, subst, ap, ◌∙◌, arith, length-append}
use Rattle.std.specs.Prelude.{slice_get}
use Rattle.rb_core.specs.declared.value.Value.{Value}
use Rattle.rb_core.specs.declared.types.Ty.{Ty}
use Rattle.rb_core.specs.declared.program.Fun.{Fun}
use Rattle.rb_core.specs.declared.outcome.SourceEnd.{SourceEnd}
use Rattle.rb_core.specs.declared.outcome.SourceEnd.TheVariants.{Done, Spent as Stopped}
use Rattle.rb_core.specs.Meaning.{call_of}
use Rattle.rb_bytes.specs.Memory.{Memory}
use Rattle.rb_bytes.specs.Growth.{Grown}
use Rattle.rb_target.specs.declared.code.CodeFun.{CodeFun}
use Rattle.rb_target.specs.Meaning.{CallEnd as Run, run_of}
use Rattle.rb_trim.specs.Trimming.{IsNoDearer, IsTrimOf}
use Rattle.rb_rel.specs.Placing.{Fits, Laid, Over, lay, requests_of}
use Rattle.rb_fragment.specs.Plan.{Plan, Rep, Reps, types_of, words_needed_by, words_needed}
use Rattle.rb_fragment.proofs.Represented.{Rep-count}
use Rattle.rb_compile.specs.Refining.{EndsAs, HasHead, Refines}
use Rattle.rb_compile.specs.Thrift.{IsThrifty}

module _ (plan : Plan) (clean : Bool) (t : Ty) (m : Memory) (new old : Run) (near : IsNoDearer new old) where
  ends_as : (l : Laid) (e : SourceEnd) → EndsAs plan clean t m l e old → EndsAs plan clean t m l e new
  ends_as (Over full) e h = near.ended ∙ h
  ends_as (Fits bs p) Stopped h = near.ended ∙ h
  ends_as (Fits bs p) (Done v left) h = (
    h.0,
    near.ended ∙ h.1,
    subst (λ k. Grown m k bs p) (sym near.memory) h.2,
    subst (λ k. Rep plan k clean t v h.0) (sym near.memory) h.3,
  )

-- values have as many words as their types
reps_count : (plan : Plan) (m : Memory) (clean : Bool) (ts : List Ty) (vs : List Value) (ws : List ℕ) → Reps plan m clean ts vs ws → length ws ≡ words_needed_by plan ts
reps_count plan m clean [] [] ws r = ap length r
reps_count plan m clean [] (v ∷ vs) ws r = absurd r
reps_count plan m clean (t ∷ ts) [] ws r = absurd r
reps_count plan m clean (t ∷ ts) (v ∷ vs) ws r =
    let one : length r.0 ≡ words_needed plan t = Rep-count plan clean m r.3 in
    let more : length r.1 ≡ words_needed_by plan ts = reps_count plan m clean ts vs r.1 r.4 in
    ap length r.2 ∙ length-append r.0 r.1 ∙ ap (λ n. n + length r.1) one ∙ ap (λ n. words_needed plan t + n) more

module _ (plan : Plan) (old new : List CodeFun) (trim : IsTrimOf old new) (refines : Refines plan old) where
  near : (g : ℕ) (f : Fun) → slice_get plan.program.funs g ≡ Some f → (clean : Bool) (vs : List Value) (ws : List ℕ) (m : Memory) (n : ℕ) → Reps plan m clean (types_of f) vs ws
      → IsNoDearer (run_of new n g ws m) (run_of old n g ws m)
  near g f is clean vs ws m n reps =
      let q = refines.heads g f is in
      trim.runs g q.0 n ws m q.1 (reps_count plan m clean (types_of f) vs ws reps ∙ sym q.2.params)

  heads : (g : ℕ) (f : Fun) → slice_get plan.program.funs g ≡ Some f → (q : CodeFun) × (slice_get new g ≡ Some q) × HasHead plan f q
  heads g f is =
      let q = refines.heads g f is in
      let p = trim.heads g q.0 q.1 in
      (p.0, p.1, record { name = p.2.name ∙ q.2.name; params = p.2.params ∙ q.2.params; results = p.2.results ∙ q.2.results })

  pub trim_refines : Refines plan new
  trim_refines = record {
    count = trim.count ∙ refines.count;
    heads = heads;
    runs = λ g f is clean vs ws m n good reps.
        ends_as plan clean f.result m (run_of new n g ws m) (run_of old n g ws m) (near g f is clean vs ws m n reps)
        (lay m.limit m.next (requests_of plan.layouts (call_of plan.program g n vs).log)) (call_of plan.program g n vs).end
        (refines.runs g f is clean vs ws m n good reps);
  }

  pub trim_thrifty : IsThrifty plan old → IsThrifty plan new
  trim_thrifty thrifty = λ g f is clean vs ws m n good reps.
      let d = near g f is clean vs ws m n reps in
      let few = thrifty g f is clean vs ws m n good reps in
      omega (arith, d.switches, few)
