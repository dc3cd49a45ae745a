-- What is known of represented values, in the words of a plan.
use Rattle.std.proofs.Common.{◌≡◌, ℕ, ◌^◌, ◌<◌, Bool, List, [], ◌∷◌, length}
use Rattle.rb_core.specs.declared.value.Value.{Value, Num}
use Rattle.rb_core.specs.declared.types.Ty.{Ty}
use Rattle.rb_core.specs.declared.types.Ty.TheVariants.{Int}
use Rattle.rb_bytes.specs.Memory.{Memory}
use Rattle.rb_bytes.specs.Laws.{Extends}
use Rattle.rb_rel.proofs.Growth.{Represents-kept}
use Rattle.rb_rel.proofs.Represented.{Represents-count, Represents-int}
use Rattle.rb_fragment.specs.Plan.{Plan, Rep, words_needed}

-- a memory that grows keeps what represents values
pub Rep-kept : (plan : Plan) (clean : Bool) (m m' : Memory) → Extends m m' → {t : Ty} {v : Value} {ws : List ℕ} → Rep plan m clean t v ws → Rep plan m' clean t v ws
Rep-kept plan clean m m' e r = Represents-kept m m' e plan.program.types plan.layouts clean r

pub Rep-count : (plan : Plan) (clean : Bool) (m : Memory) {t : Ty} {v : Value} {ws : List ℕ} → Rep plan m clean t v ws → length ws ≡ words_needed plan t
Rep-count plan clean m r = Represents-count plan.program.types plan.layouts m clean r

-- an integer is one word
pub Rep-int : (plan : Plan) (clean : Bool) (m : Memory) (bits : ℕ) (v : Value) (ws : List ℕ) → Rep plan m clean (Int bits) v ws
    → (x : ℕ) × (v ≡ Num x) × (ws ≡ x ∷ []) × (x < 2 ^ bits)
Rep-int plan clean m bits v ws r = Represents-int plan.program.types plan.layouts m clean bits v ws r
