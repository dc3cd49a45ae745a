-- Code whose functions do what the program's do refines the program, with few switches.
use Rattle.std.proofs.Common.{ℕ, ◌+◌, ◌≤◌, Bool, List, length, sym, subst, ap, ◌∙◌, arith}
use Rattle.rb_core.specs.declared.types.Ty.{Ty}
use Rattle.rb_core.specs.declared.outcome.Outcome.{Outcome as Meant}
use Rattle.rb_core.specs.declared.outcome.SourceEnd.{SourceEnd}
use Rattle.rb_core.specs.declared.outcome.SourceEnd.TheVariants.{Done, Spent as Stopped}
use Rattle.rb_core.specs.Meaning.{call_of}
use Rattle.rb_bytes.specs.Memory.{Memory}
use Rattle.rb_bytes.specs.Growth.{Grown}
use Rattle.rb_target.specs.declared.code.CodeFun.{CodeFun}
use Rattle.rb_target.specs.declared.outcome.End.TheVariants.{Returned}
use Rattle.rb_target.specs.Laws.{IsLawful}
use Rattle.rb_target.specs.Meaning.{CallEnd as Run, run_of}
use Rattle.rb_rel.specs.Placing.{Fits, Laid, Over, lay, requests_of}
use Rattle.rb_fragment.specs.Plan.{Plan, Rep, cost_of}
use Rattle.rb_fragment.specs.Owing.{Does, Ends, GivesValue}
use Rattle.rb_fragment.specs.Functions.{AllCompile}
use Rattle.rb_fragment.proofs.Functions.{runs_do}
use Rattle.rb_compile.specs.Refining.{DoesAs, EndsAs, Refines}
use Rattle.rb_compile.specs.Thrift.{IsThrifty}
use Rattle.rb_compile.specs.inner.Functions.{FirstCompile, ProgramIsReady}
use Rattle.rb_compile.proofs.Whole.{all_compile}

module _ (plan : Plan) (clean : Bool) (t : Ty) (m : Memory) (run : Run) (most : ℕ) where
  ends_as : (l : Laid) (e : SourceEnd) → Ends most run m l e (GivesValue plan clean t run) → EndsAs plan clean t m l e run × (run.world.switches ≤ most)
  ends_as (Over full) e h = (ap (λ (r : Run). r.ended) h.1, subst (λ (r : Run). r.world.switches ≤ most) (sym h.1) h.2)
  ends_as (Fits bs p) Stopped h = (ap (λ (r : Run). r.ended) h.1, subst (λ (r : Run). r.world.switches ≤ most) (sym h.1) h.2)
  ends_as (Fits bs p) (Done v left) h =
      let words = h.4.0 in
      let is = h.4.1 in (
        (
          words,
          ap (λ (r : Run). r.ended) is ∙ ap (λ k. Returned words k) h.2,
          subst (λ (r : Run). Grown m r.world.memory bs p) (sym is) h.1,
          subst (λ (r : Run). Rep plan r.world.memory clean t v words) (sym is) h.4.2,
        ),
        subst (λ (r : Run). r.world.switches ≤ most) (sym is) h.3,
      )

does_as : (plan : Plan) (clean : Bool) (t : Ty) (m : Memory) (o : Meant) (run : Run) → Does plan 0 run m o (GivesValue plan clean t run) → DoesAs plan clean t m o run × (run.world.switches ≤ cost_of plan o.log)
does_as plan clean t m o run d =
    let r = ends_as plan clean t m run (0 + cost_of plan o.log) (lay m.limit m.next (requests_of plan.layouts o.log)) o.end d in
    let few = r.1 in
    (r.0, omega (arith, few))

module _ (plan : Plan) (qs : List CodeFun) (lawful : IsLawful qs) (ready : ProgramIsReady plan) (first : FirstCompile plan (length plan.program.funs) qs) where
  abbrev all : AllCompile plan qs
  all = all_compile plan qs ready first

  pub refines : Refines plan qs
  refines = record {
    count = first.count;
    heads = λ g f is. let c = all g f is in (c.0, c.1, record { name = c.2.name; params = c.2.params; results = c.2.results });
    runs = λ g f is clean vs ws m n good reps. (does_as plan clean f.result m (call_of plan.program g n vs) (run_of qs n g ws m) (runs_do plan qs lawful all clean g f vs ws n m is good reps)).0;
  }

  pub thrifty : IsThrifty plan qs
  thrifty = λ g f is clean vs ws m n good reps. (does_as plan clean f.result m (call_of plan.program g n vs) (run_of qs n g ws m) (runs_do plan qs lawful all clean g f vs ws n m is good reps)).1
