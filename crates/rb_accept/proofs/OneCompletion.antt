-- A program is completed in one way.
use Rattle.std.proofs.Common.{◌≡◌, ℕ, List, [], ◌∷◌, Option, Ok, Err, refl, sym, ap, ◌∙◌}
use Rattle.rb_auto.specs.Answers.{Derives, answer}
use Rattle.rb_auto.specs.Completed.{completed_program}
use Rattle.rb_auto.specs.Rooms.{AreTheRooms}
use Rattle.rb_auto.specs.declared.fault.AutoFault.{AutoFault}
use Rattle.rb_auto.specs.declared.fault.AutoFault.TheVariants.{PackedRecursive, PackedWide, Memory}
use Rattle.rb_auto.specs.declared.room.Room.{Room}
use Rattle.rb_core.specs.declared.program.Program.{Program}
use Rattle.rb_core.specs.declared.types.Auto.{Auto}
use Rattle.rb_names.specs.Completing.{IsDerived, AreDerived, IsCompleted, kinds_of, left_types, layouts_in, first_refusal}
use Rattle.rb_names.specs.declared.complete.Completed.{Completed}
use Rattle.rb_syntax.specs.declared.tree.FileTree.{FileTree}
use Rattle.rb_accept.specs.Accepting.{completed_as}

module _ (p : Program) (kinds : List (Option Auto)) where
  -- what is derived for a type, by the rooms that say so
  by_rooms : (t : ℕ) (r : Derives) → IsDerived p kinds t r → (rooms : List Room) × AreTheRooms p kinds rooms × (r ≡ answer p kinds rooms t)
  by_rooms t (Ok d) h = h
  by_rooms t (Err (PackedRecursive n)) h = h
  by_rooms t (Err (PackedWide n bits)) h = h
  by_rooms t (Err Memory) h = absurd h

  one_derived : (t : ℕ) (r s : Derives) → IsDerived p kinds t r → IsDerived p kinds t s → r ≡ s
  one_derived t r s h k =
      let a = by_rooms t r h in
      let b = by_rooms t s k in
      a.2 ∙ ap (λ rooms. answer p kinds rooms t) (b.1.only a.0 a.1.are) ∙ sym b.2

  all_derived : (ts : List ℕ) (rs ss : List Derives) → AreDerived p kinds ts rs → AreDerived p kinds ts ss → rs ≡ ss
  all_derived [] [] [] h k = refl
  all_derived [] [] (s ∷ ss) h k = absurd k
  all_derived [] (r ∷ rs) ss h k = absurd h
  all_derived (t ∷ ts) [] ss h k = absurd h
  all_derived (t ∷ ts) (r ∷ rs) [] h k = absurd k
  all_derived (t ∷ ts) (r ∷ rs) (s ∷ ss) h k = rw (one_derived t r s h.0 k.0, all_derived ts rs ss h.1 k.1) refl

with_parts : (p q : Program) (f g : Option AutoFault) → p ≡ q → f ≡ g → completed_as p f ≡ completed_as q g
with_parts p q f g e h = rw (e, h) refl

pub one_completion : (file : FileTree) (p : Program) (c d : Completed) → IsCompleted file p c → IsCompleted file p d → c ≡ d
one_completion file p c d h k =
    let same = all_derived p (kinds_of file) (left_types file) h.answers k.answers h.are_derived k.are_derived in
    with_parts c.program d.program c.refused d.refused
    (h.program ∙ ap (λ (rs : List Derives). completed_program p (layouts_in rs)) same ∙ sym k.program)
    (h.refused ∙ ap (λ (rs : List Derives). first_refusal rs) same ∙ sym k.refused)
