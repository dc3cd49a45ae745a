-- What the calls that wait make of the current one, and where valid code goes on.
use Rattle.std.proofs.Common.{◌≡◌, ℕ, zero, suc, ◌+◌, ◌-◌, ◌<◌, ◌≤◌, inl, inr, List, [], ◌∷◌, ◌++◌, length, take, drop, Option, Some, None, refl, sym, ap, subst, ◌∙◌, arith}
use Rattle.std.specs.Prelude.{slice_get}
use Rattle.std.proofs.lemmas.Bool.Decides.{eqb_tells}
use Rattle.std.proofs.lemmas.List.{take_all, take-append-le, drop-append-le, length-drop}
use Rattle.std.proofs.lemmas.Option.{slice_get_within, same_Some}
use Rattle.rb_target.specs.Meaning.{World, CallEnd, over, from, enter, body_of, slots_in, first_slots, with_left, after_one_call}
use Rattle.rb_target.specs.Validity.{IsValidFun, IsValid, FitsCall}
use Rattle.rb_target.specs.Laws.{IsLawful, IsFinal}
use Rattle.rb_target.specs.declared.outcome.End.{End}
use Rattle.rb_target.specs.declared.code.CodeFun.{CodeFun}
use Rattle.rb_target.specs.declared.instr.Instr.{Instr}
use Rattle.rb_target.specs.declared.instr.Instr.TheVariants.{Return}
use Rattle.rb_machine.specs.inner.Turns.{HasNext, resume, slot_count, unwind, room_at, room_in, slots_in_wait}
use Rattle.rb_machine.specs.declared.state.Frame.{Frame}

-- the function of a number
pub record Known (funs : List CodeFun) (n : ℕ) : Type 0 where
  pub it : CodeFun
  pub is : slice_get funs n ≡ Some it
  pub valid : IsValidFun funs it

no_none : (funs : List CodeFun) (n : ℕ) → n < length funs → slice_get funs n ≡ None → ⊥
no_none [] n lt e = omega arith
no_none (f ∷ funs) zero lt e = cc
no_none (f ∷ funs) (suc n) lt e = no_none funs n (omega arith) e

known_from : (funs : List CodeFun) (n : ℕ) (o : Option CodeFun) → IsValid funs → slice_get funs n ≡ o → n < length funs → Known funs n
known_from funs n None v e lt = absurd (no_none funs n lt e)
known_from funs n (Some f) v e lt = record { it = f; is = e; valid = v.each n f e }

pub known_at : (funs : List CodeFun) (n : ℕ) → IsValid funs → n < length funs → Known funs n
known_at funs n v lt = known_from funs n (slice_get funs n) v refl lt

-- the callee of a fine call is known
pub callee_from : (funs : List CodeFun) (n : ℕ) (ds froms : List ℕ) (o : Option CodeFun) → IsValid funs → slice_get funs n ≡ o → FitsCall o ds froms → Known funs n × (length froms ≤ slots_in o)
callee_from funs n ds froms None v e fits = absurd fits
callee_from funs n ds froms (Some f) v e fits =
    let valid = v.each n f e in
    (record { it = f; is = e; valid = valid }, omega (arith, valid.params))

-- a body ends in a return, so that another instruction is not its last
abbrev pub IsNoReturn : Instr → Type 0
IsNoReturn (Return froms) = ⊥
IsNoReturn i = Unit {0}

begins : (body : List Instr) (i : Instr) → slice_get body (length body - 1) ≡ Some i → 0 < length body
begins body i e = omega (arith, slice_get_within body (length body - 1) i e)

pub valid_begins : (funs : List CodeFun) (f : CodeFun) → IsValidFun funs f → 0 < length f.body
valid_begins funs f valid = begins f.body (Return valid.ends.0) valid.ends.1

pub valid_goes_on : (funs : List CodeFun) (f : CodeFun) (pc : ℕ) (i : Instr) → IsValidFun funs f → slice_get f.body pc ≡ Some i → IsNoReturn i → pc + 1 < length f.body
valid_goes_on funs f pc i valid is other =
    let inside = slice_get_within f.body pc i is in
    elim (eqb_tells (pc + 1) (length f.body)) [
      | inl e ↦
          let at = e.1 in
          let last : length f.body - 1 ≡ pc = omega arith in
          let same : Some (Return valid.ends.0) ≡ Some i = sym valid.ends.1 ∙ ap (slice_get f.body) last ∙ is in
          absurd (subst IsNoReturn (sym (same_Some (Return valid.ends.0) i same)) other)
      | inr e ↦ let ne = e.1 in omega (arith, inside)
    ]

pub goes_on : (funs : List CodeFun) (f : CodeFun) (pc : ℕ) (i : Instr) → IsValidFun funs f → slice_get f.body pc ≡ Some i → HasNext (length f.body) pc i
goes_on funs f pc (Return froms) valid is = slice_get_within f.body pc (Return froms) is
goes_on funs f pc i valid is = valid_goes_on funs f pc i valid is tt

pub room_in-push : (funs : List CodeFun) (frames : List Frame) (frame : Frame) → room_in funs (frames ++ frame ∷ []) ≡ room_in funs frames + room_at funs frame.fun frame.pc
room_in-push funs [] frame = omega arith
room_in-push funs (x ∷ frames) frame = let h = room_in-push funs frames frame in omega arith

pub held_in-push : (funs : List CodeFun) (frames : List Frame) (frame : Frame) → slots_in_wait funs (frames ++ frame ∷ []) ≡ slots_in_wait funs frames + slot_count funs frame.fun
held_in-push funs [] frame = omega arith
held_in-push funs (x ∷ frames) frame = let h = held_in-push funs frames frame in omega arith

-- the last call that waits goes on first
pub unwind_push : (funs : List CodeFun) (depth : ℕ) (frames : List Frame) (frame : Frame) (below slots : List ℕ) (o : CallEnd) → length below ≡ slots_in_wait funs frames → length slots ≡ slot_count funs frame.fun
    → unwind funs depth (frames ++ frame ∷ []) (below ++ slots) o ≡ unwind funs depth frames below (resume funs (depth - length frames) frame slots o)
unwind_push funs depth [] frame [] slots o held width =
    let e : depth ≡ depth - 0 = omega arith in
    let whole : take (slot_count funs frame.fun) slots ≡ slots = take_all (slot_count funs frame.fun) slots (omega arith) in
    ap (λ d. resume funs d frame (take (slot_count funs frame.fun) slots) o) e ∙ ap (λ xs. resume funs (depth - 0) frame xs o) whole
unwind_push funs depth [] frame (b ∷ below) slots o held width = absurd (omega arith)
unwind_push funs depth (x ∷ frames) frame below slots o held width =
    let n = slot_count funs x.fun in
    let fits : n ≤ length below = omega arith in
    let e : depth - 1 - length frames ≡ depth - length (x ∷ frames) = omega arith in
    let rest : length (drop n below) ≡ slots_in_wait funs frames = omega (arith, length-drop n below) in
    ap (λ xs. resume funs depth x xs (unwind funs (depth - 1) (frames ++ frame ∷ []) (drop n (below ++ slots)) o)) (take-append-le n below slots fits)
    ∙ ap (λ xs. resume funs depth x (take n below) (unwind funs (depth - 1) (frames ++ frame ∷ []) xs o)) (drop-append-le n below slots fits)
    ∙ ap (λ r. resume funs depth x (take n below) r) (unwind_push funs (depth - 1) frames frame (drop n below) slots o rest width ∙ ap (λ d. unwind funs (depth - 1) frames (drop n below) (resume funs d frame slots o)) e)

-- any other end than a return ends all calls
pub unwind_end : (funs : List CodeFun) (laws : IsLawful funs) (depth : ℕ) (frames : List Frame) (stack : List ℕ) (o : CallEnd) → IsFinal o.ended → unwind funs depth frames stack o ≡ o
unwind_end funs laws depth [] stack o final = refl
unwind_end funs laws depth (x ∷ frames) stack o final =
    ap (λ r. resume funs depth x (take (slot_count funs x.fun) stack) r) (unwind_end funs laws (depth - 1) frames (drop (slot_count funs x.fun) stack) o final) ∙ laws.final o _ final

pub unwind_final : (funs : List CodeFun) (laws : IsLawful funs) (depth : ℕ) (frames : List Frame) (stack : List ℕ) (e : End) (w : World) → IsFinal e → unwind funs depth frames stack (over e w) ≡ over e w
unwind_final funs laws depth frames stack e w final = unwind_end funs laws depth frames stack (over e w) final

-- a call with calls left, and one without
pub enter_some : (funs : List CodeFun) (depth left f : ℕ) (words : List ℕ) (w : World) → w.left ≡ suc left → 0 < depth → enter funs depth f words w ≡ from (body_of funs f) (enter funs (depth - 1)) 0 (first_slots funs f words) (with_left w left)
unfolding enter
enter_some funs zero left f words w e d = absurd (omega arith)
enter_some funs (suc depth) left f words w e d =
    let below : depth ≡ suc depth - 1 = omega arith in
    ap (λ n. after_one_call n w (λ v. from (body_of funs f) (enter funs depth) 0 (first_slots funs f words) v)) e
    ∙ ap (λ k. from (body_of funs f) (enter funs k) 0 (first_slots funs f words) (with_left w left)) below
