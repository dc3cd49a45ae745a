-- Arguments that words spell, one after the other.
use Rattle.std.proofs.Common.{◌≡◌, ◌≢◌, ◌<◌, ℕ, zero, suc, ◌+◌, List, [], ◌∷◌, ◌++◌, map, length, take, get_or, true, Some, Result, Ok, Err, refl, sym, ap, subst, ◌∙◌, arith}
use Rattle.std.proofs.lemmas.Option.{same_Some, slice_get-get_or, slice_get-map}
use Rattle.std.specs.List.{slice_get}
use Rattle.std.specs.Option.{option_map}
use Rattle.rb_core.specs.Typing.{param_types}
use Rattle.rb_core.specs.Values.{all_of_types, is_of_type}
use Rattle.rb_core.specs.declared.program.Param.{Param}
use Rattle.rb_core.specs.declared.program.Program.{Program}
use Rattle.rb_core.specs.declared.types.DataDecl.{DataDecl}
use Rattle.rb_core.specs.declared.types.Ty.{Ty}
use Rattle.rb_core.specs.declared.value.Value.{Value}
use Rattle.rb_lines.specs.Answer.{Due}
use Rattle.rb_lines.specs.ArgumentLines.{node_limit}
use Rattle.rb_values.proofs.AnswerLemmas.{one-answer}
use Rattle.rb_values.proofs.FittingLemmas.{read-of_type}
use Rattle.rb_values.specs.Reading.{ValueIsRead}
use Rattle.rb_values.specs.declared.fault.ValueFault.{ValueFault}
use Rattle.rb_values.specs.declared.fault.ValueFault.TheVariants.{Memory}
use Rattle.rb_accept.specs.Arguments.{AreRead, Spell, IsMisfit, miscounted, misspelled}
use Rattle.rb_accept.proofs.Named.{and_both}

-- One more ----------------------------------------------------------------------------------

are_read_more : (types : List DataDecl) (ts : List Ty) (ws : List (List ℕ)) (vs : List Value) (i : ℕ) (t : Ty) (w : List ℕ) (v : Value)
    → slice_get ts i ≡ Some t → slice_get ws i ≡ Some w → AreRead types (take i ts) (take i ws) vs → ValueIsRead types t node_limit w (Ok v)
    → AreRead types (take (suc i) ts) (take (suc i) ws) (vs ++ v ∷ [])
are_read_more types [] ws vs i t w v e f h r = absurd cc
are_read_more types (x ∷ ts) [] vs i t w v e f h r = absurd cc
are_read_more types (x ∷ ts) (y ∷ ws) [] zero t w v e f h r =
    (subst (λ (a : Ty). ValueIsRead types a node_limit y (Ok v)) (sym (same_Some x t e)) (subst (λ (b : List ℕ). ValueIsRead types t node_limit b (Ok v)) (sym (same_Some y w f)) r), tt)
are_read_more types (x ∷ ts) (y ∷ ws) (u ∷ vs) zero t w v e f h r = absurd h
are_read_more types (x ∷ ts) (y ∷ ws) [] (suc i) t w v e f h r = absurd h
are_read_more types (x ∷ ts) (y ∷ ws) (u ∷ vs) (suc i) t w v e f h r = (h.0, are_read_more types ts ws vs i t w v e f h.1 r)

pub argument_read : (types : List DataDecl) (params : List Param) (ws : List (List ℕ)) (vs : List Value) (i : ℕ) (d : Param) (w : List ℕ) (v : Value)
    → i < length params → slice_get ws i ≡ Some w → AreRead types (take i (map (λ p. p.ty) params)) (take i ws) vs
    → ValueIsRead types (get_or params i d).ty node_limit w (Ok v)
    → AreRead types (take (i + 1) (map (λ p. p.ty) params)) (take (i + 1) ws) (vs ++ v ∷ [])
argument_read types params ws vs i d w v lt f h r =
    let ts : List Ty = map (λ p. p.ty) params in
    let e : slice_get ts i ≡ Some (get_or params i d).ty = slice_get-map (λ (p : Param). p.ty) params i ∙ ap (option_map (λ (p : Param). p.ty)) (slice_get-get_or params i d lt) in
    let z : suc i ≡ i + 1 = omega arith in
    subst (λ n. AreRead types (take n ts) (take n ws) (vs ++ v ∷ [])) z (are_read_more types ts ws vs i (get_or params i d).ty w v e f h r)

-- What is read ------------------------------------------------------------------------------

are_typed : (types : List DataDecl) (ts : List Ty) (ws : List (List ℕ)) (vs : List Value) → AreRead types ts ws vs → all_of_types (map (is_of_type types) vs) ts ≡ true
are_typed types [] [] [] h = refl
are_typed types [] [] (v ∷ vs) h = absurd h
are_typed types [] (w ∷ ws) vs h = absurd h
are_typed types (t ∷ ts) [] vs h = absurd h
are_typed types (t ∷ ts) (w ∷ ws) [] h = absurd h
are_typed types (t ∷ ts) (w ∷ ws) (v ∷ vs) h =
    and_both (is_of_type types v t) (all_of_types (map (is_of_type types) vs) ts) (read-of_type types t node_limit w (Ok v) h.0) (are_typed types ts ws vs h.1)

pub spelled_typed : (p : Program) (words : List (List ℕ)) (args : List Value) → Spell p words args
    → all_of_types (map (is_of_type p.types) args) (param_types p.funs p.main) ≡ true
spelled_typed p words args h = are_typed p.types (param_types p.funs p.main) words args h

as_many : (types : List DataDecl) (ts : List Ty) (ws : List (List ℕ)) (vs : List Value) → AreRead types ts ws vs → length ws ≡ length ts
as_many types [] [] vs h = refl
as_many types [] (w ∷ ws) vs h = absurd h
as_many types (t ∷ ts) [] vs h = absurd h
as_many types (t ∷ ts) (w ∷ ws) [] h = absurd h
as_many types (t ∷ ts) (w ∷ ws) (v ∷ vs) h = ap suc (as_many types ts ws vs h.1)

-- One answer --------------------------------------------------------------------------------

the_value : Value → Result Value ValueFault → Value
the_value v (Ok u) = u
the_value v (Err e) = v

one_value : (types : List DataDecl) (t : Ty) (w : List ℕ) (v u : Value) → ValueIsRead types t node_limit w (Ok v) → ValueIsRead types t node_limit w (Ok u) → v ≡ u
unfolding the_value
one_value types t w v u h k = ap (the_value v) (one-answer types t node_limit w (Ok v) (Ok u) (λ e. absurd (cc e)) (λ e. absurd (cc e)) h k)

never_both : (types : List DataDecl) (t : Ty) (w : List ℕ) (v : Value) (f : ValueFault) → f ≢ Memory → ValueIsRead types t node_limit w (Ok v) → ValueIsRead types t node_limit w (Err f) → ⊥
never_both types t w v f known h k =
    let same : ◌≡◌ {A = Result Value ValueFault} (Ok v) (Err f) = one-answer types t node_limit w (Ok v) (Err f) (λ e. absurd (cc e)) (λ e. known (cc e)) h k in
    absurd (cc same)

pub same_values : (types : List DataDecl) (ts : List Ty) (ws : List (List ℕ)) (vs us : List Value) → AreRead types ts ws vs → AreRead types ts ws us → vs ≡ us
same_values types [] [] [] [] h k = refl
same_values types [] [] [] (u ∷ us) h k = absurd k
same_values types [] [] (v ∷ vs) us h k = absurd h
same_values types [] (w ∷ ws) vs us h k = absurd h
same_values types (t ∷ ts) [] vs us h k = absurd h
same_values types (t ∷ ts) (w ∷ ws) [] us h k = absurd h
same_values types (t ∷ ts) (w ∷ ws) (v ∷ vs) [] h k = absurd k
same_values types (t ∷ ts) (w ∷ ws) (v ∷ vs) (u ∷ us) h k =
    ap (λ (x : Value). x ∷ vs) (one_value types t w v u h.0 k.0) ∙ ap (λ (xs : List Value). u ∷ xs) (same_values types ts ws vs us h.1 k.1)

read_at : (types : List DataDecl) (ts : List Ty) (ws : List (List ℕ)) (vs : List Value) (i : ℕ) (t : Ty) (w : List ℕ) → slice_get ts i ≡ Some t → slice_get ws i ≡ Some w
    → AreRead types ts ws vs → (v : Value) × ValueIsRead types t node_limit w (Ok v)
read_at types [] ws vs i t w e f h = absurd cc
read_at types (x ∷ ts) [] vs i t w e f h = absurd h
read_at types (x ∷ ts) (y ∷ ws) [] i t w e f h = absurd h
read_at types (x ∷ ts) (y ∷ ws) (v ∷ vs) zero t w e f h =
    (v, subst (λ (b : List ℕ). ValueIsRead types t node_limit b (Ok v)) (same_Some y w f) (subst (λ (a : Ty). ValueIsRead types a node_limit y (Ok v)) (same_Some x t e) h.0))
read_at types (x ∷ ts) (y ∷ ws) (v ∷ vs) (suc i) t w e f h = read_at types ts ws vs i t w e f h.1

-- words that spell arguments are not refused
pub never_misfit : (p : Program) (words : List (List ℕ)) (args : List Value) (due : Due) → Spell p words args → IsMisfit p words due → ⊥
never_misfit p words args due spelled (miscounted ne e) = ne (as_many p.types (param_types p.funs p.main) words args spelled)
never_misfit p words args due spelled (misspelled same m) =
    let here = read_at p.types (param_types p.funs p.main) words args m.place m.ty m.word m.has_type m.has_word spelled in
    never_both p.types m.ty m.word here.0 m.refused.fault m.refused.known here.1 m.refused.refused
