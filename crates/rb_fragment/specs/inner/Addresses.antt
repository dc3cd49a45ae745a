-- How an address is made of the word that holds its pointer part, for the proof of what makes it.
use Rattle.std.specs.Prelude.{◌≡◌, ℕ, true}
use Rattle.rb_target.specs.declared.instr.AluOp.TheVariants.{Mul}
use Rattle.rb_target.specs.declared.instr.Instr.TheVariants.{Const, Alu}
use Rattle.rb_target.specs.Sheet.{Sheet, with_more, with_slot}
use Rattle.rb_fragment.specs.declared.reads.Read.{Read, Address}
use Rattle.rb_fragment.specs.Plan.{Plan}
use Rattle.rb_fragment.specs.Reads.{fits, MakesReadIn}

-- behind code that leaves a word in slot `from`, the appended code leaves in `slot` the address that bits o up to
-- o + l of the word say: these bits times the alignment, modulo 2 ^ 64
abbrev pub MakesAddress : ℕ → ℕ → ℕ → ℕ → Sheet → Sheet → ℕ → Type 0
MakesAddress from o l align old new slot =
    (plan : Plan) (r : Read) (a : Sheet) (k : ℕ) → fits k (Address r o l align) ≡ true → MakesReadIn plan r a old from
    → MakesReadIn plan (Address r o l align) a new slot

-- the sheet `old`, and behind it code that leaves the word of slot `from` times a number in the second new slot
abbrev pub multiple : ℕ → ℕ → Sheet → Sheet
multiple from unit old =
    let one = with_more (with_slot old) (Const old.slots unit) in
    with_more (with_slot one) (Alu Mul 64 one.slots from old.slots)
