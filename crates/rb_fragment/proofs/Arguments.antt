-- Arguments, and what is done with them.
use Rattle.std.proofs.Common.{ℕ, ◌≤◌, inl, List, [], length, ◌∙◌, arith}
use Rattle.rb_core.specs.declared.value.Value.{Value}
use Rattle.rb_core.specs.declared.types.Ty.{Ty}
use Rattle.rb_core.specs.declared.outcome.Outcome.{Outcome}
use Rattle.rb_core.specs.Meaning.{Calls, Meaning, then_with, all_of}
use Rattle.rb_target.specs.Sheet.{Sheet}
use Rattle.rb_fragment.proofs.Adding.{Adds-trans}
use Rattle.rb_fragment.proofs.Laying.{does_map}
use Rattle.rb_fragment.specs.Fragments.{Applies, Comes, Emits, EmitsAll}
use Rattle.rb_fragment.specs.Holding.{scope_of}
use Rattle.rb_fragment.specs.Plan.{Plan}
use Rattle.rb_fragment.specs.declared.held.Held.{Held}
use Rattle.rb_fragment.specs.declared.held.Local.{Local}
use Rattle.rb_target.proofs.Growing.{Agrees-part, Grows-refl, Keeps-trans}
use Rattle.rb_target.specs.Growth.{Nowhere}

module _ (plan : Plan) (ts : List Ty) (ls : List Local) (Such : List Value → Type 0) where
  -- expressions, and what is done with their values
  pub applied : (ms : Calls → List Meaning) (f : Calls → List Value → ℕ → Outcome) (a b c : Sheet) (hs : List Held) (u : Ty) (ys : List ℕ) → EmitsAll plan Such ms ts ls a b hs → Applies plan Such f hs b c u ys
      → Emits plan (λ calls left env. then_with (all_of (ms calls) ts (scope_of ls) [] left env) (f calls)) ls a c u ys
  applied ms f a b c hs u ys all ap1 = record {
    adds = Adds-trans plan a b c all.adds ap1.adds;
    given = ap1.given;
    count = ap1.count;
    origin = λ y o. inl (let le = ap1.fresh y o in omega (arith, le, all.adds.more));
    does = λ calls clean env. record {
      runs = λ final callee next law rel agrees s w long good holds.
          let out = next (length a.code) s w in
          let l1 = all.adds.grows.longer in let l2 = ap1.adds.grows.longer in
          let long1 : b.slots ≤ length s = omega (arith, ap1.adds.more, long) in
          let agrees1 = Agrees-part final c.code b.code (length a.code) (length c.code) (length a.code) (length b.code) Nowhere Nowhere ap1.adds.grows (omega arith) (omega (arith, l2)) (omega arith) (λ pc lo hi x. x) agrees in
          let agrees2 = Agrees-part final c.code c.code (length a.code) (length c.code) (length b.code) (length c.code) Nowhere Nowhere (Grows-refl c.code) (omega (arith, l1)) (omega arith) (omega arith) (λ pc lo hi x. x) agrees in
          all.does calls clean env final callee next law rel agrees1 s w long1 good holds (f calls) (length c.code) u ys
          (λ vs s1 w1 bs p such eq keeps g held.
          let long2 : c.slots ≤ length s1 = omega (arith, keeps.long, long) in
          does_map plan w1.switches w1.switches out (next (length b.code) s1 w1) (Comes plan clean out next (length c.code) a.slots u ys s) (Comes plan clean (next (length b.code) s1 w1) next (length c.code) b.slots u ys s1) w1.memory (f calls vs w1.left) (omega arith) eq
          (λ v w2 r. (r.0, eq ∙ r.1, Keeps-trans a.slots b.slots s s1 r.0 all.adds.more keeps r.2, r.3))
          ((ap1.does calls clean vs such).runs final callee next law rel agrees2 s1 w1 long2 g.good held));
    };
  }
