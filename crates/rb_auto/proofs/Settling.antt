-- Rooms that are settled one after the other are in the end those of the program.
use Rattle.std.proofs.Common.{◌≡◌, ℕ, zero, suc, ◌+◌, ◌<◌, ◌⊎◌, inl, inr, List, [], ◌∷◌, ◌++◌, length, map, Option, Some, None, refl, sym, ap, subst, ◌∙◌, arith}
use Rattle.std.specs.Prelude.{slice_get, slice_set}
use Rattle.std.proofs.lemmas.Option.{same_Some, slice_get_within}
use Rattle.std.proofs.lemmas.List.{length-append, length-map}
use Rattle.rb_core.specs.declared.types.Auto.{Auto}
use Rattle.rb_core.specs.declared.program.Program.{Program}
use Rattle.rb_auto.specs.declared.room.Room.{Room}
use Rattle.rb_auto.specs.declared.room.Room.TheVariants.{Word, Recursive, Bits}
use Rattle.rb_auto.specs.Widths.{need}
use Rattle.rb_auto.specs.Rooms.{IsRoom, AreRooms, AreTheRooms}
use Rattle.rb_auto.specs.inner.Settling.{ExtendsSettled, IsSettled, AreSettled, IsFirst}
use Rattle.rb_layout.proofs.GraphLemmas.{get-of}

there : {A : Type 0} (xs : List A) (k : ℕ) → k < length xs → (x : A) × (slice_get xs k ≡ Some x)
there [] k lt = absurd (omega (arith, lt))
there (x ∷ xs) zero lt = (x, refl)
there (x ∷ xs) (suc k) lt = there xs k (omega (arith, lt))

module _ (p : Program) (kinds : List (Option Auto)) where
  -- a type has one room
  one-room : (rooms : List Room) (t : ℕ) (a b : Room) → IsRoom p kinds rooms t a → IsRoom p kinds rooms t b → a ≡ b
  one-room rooms t Word Word h g = refl
  one-room rooms t Word Recursive h g = absurd (h g.0)
  one-room rooms t Word (Bits n) h g = absurd (h g.0)
  one-room rooms t Recursive Word h g = absurd (g h.0)
  one-room rooms t Recursive Recursive h g = refl
  one-room rooms t Recursive (Bits n) h g = absurd (g.1 h.1.0 h.1.1)
  one-room rooms t (Bits n) Word h g = absurd (g h.0)
  one-room rooms t (Bits n) Recursive h g = absurd (h.1 g.1.0 g.1.1)
  one-room rooms t (Bits n) (Bits m) h g = ap Bits (h.2 ∙ sym g.2)

  room-at : (rooms : List Room) → AreRooms p kinds rooms → (t : ℕ) (room : Room) → t < length p.types → IsRoom p kinds rooms t room → slice_get rooms t ≡ Some room
  room-at rooms are t room lt h =
      let at = there rooms t (let c = are.count in omega (arith, c, lt)) in
      at.1 ∙ ap Some (one-room rooms t at.0 room (are.each t at.0 at.1) h)

  -- at first
  pub record AreFirst (settled : List (Option Room)) (n : ℕ) : Type 0 where
    pub count : length settled ≡ n
    pub each : (k : ℕ) (room : Option Room) → slice_get settled k ≡ Some room → IsFirst p kinds k room

  first-more : (settled : List (Option Room)) (n : ℕ) (room : Option Room) → AreFirst settled n → IsFirst p kinds n room → AreFirst (settled ++ room ∷ []) (n + 1)
  first-more settled n room are here = record {
    count = (let l = length-append settled (room ∷ []) in let c = are.count in omega (arith, l, c));
    each = λ k r e. elim (get-of settled room k r e) [
      | inl old ↦ are.each k r old
      | inr new ↦ subst (λ (x : Option Room). IsFirst p kinds k x) new.1 (subst (λ j. IsFirst p kinds j room) (sym (new.0 ∙ are.count)) here)
    ];
  }

  settled-first : (settled : List (Option Room)) (t : ℕ) (room : Option Room) → IsFirst p kinds t room → IsSettled p kinds settled t room
  settled-first settled t None h = h
  settled-first settled t (Some room) h = λ rooms extends. h rooms

  pub first-settled : (settled : List (Option Room)) → AreFirst settled (length p.types) → AreSettled p kinds settled
  first-settled settled are = record {
    count = are.count;
    each = λ t room e. settled-first settled t room (are.each t room e);
    only = λ rooms are_rooms t room e.
        room-at rooms are_rooms t room (let lt = slice_get_within settled t (Some room) e in let c = are.count in omega (arith, lt, c)) (are.each t (Some room) e rooms);
  }

  -- one room more
  set-other : {A : Type 0} (xs : List A) (t k : ℕ) (x y : A) → slice_get (slice_set xs t x) k ≡ Some y → ((k ≡ t) × (x ≡ y)) ⊎ (slice_get xs k ≡ Some y)
  set-other [] t k x y e = inr e
  set-other (z ∷ xs) zero zero x y e = inl (refl, same_Some x y e)
  set-other (z ∷ xs) zero (suc k) x y e = inr e
  set-other (z ∷ xs) (suc t) zero x y e = inr e
  set-other (z ∷ xs) (suc t) (suc k) x y e = elim (set-other xs t k x y e) [ inl h ↦ inl (ap suc h.0, h.1) | inr h ↦ inr h ]

  set-same : {A : Type 0} (xs : List A) (t : ℕ) (x old : A) → slice_get xs t ≡ Some old → slice_get (slice_set xs t x) t ≡ Some x
  set-same [] t x old e = absurd cc
  set-same (z ∷ xs) zero x old e = refl
  set-same (z ∷ xs) (suc t) x old e = set-same xs t x old e

  set-kept : {A : Type 0} (xs : List A) (t k : ℕ) (x y : A) → (k ≡ t → ⊥) → slice_get xs k ≡ Some y → slice_get (slice_set xs t x) k ≡ Some y
  set-kept [] t k x y ne e = e
  set-kept (z ∷ xs) zero zero x y ne e = absurd (ne refl)
  set-kept (z ∷ xs) zero (suc k) x y ne e = e
  set-kept (z ∷ xs) (suc t) zero x y ne e = e
  set-kept (z ∷ xs) (suc t) (suc k) x y ne e = set-kept xs t k x y (λ same. ne (ap suc same)) e

  set-count : {A : Type 0} (xs : List A) (t : ℕ) (x : A) → length (slice_set xs t x) ≡ length xs
  set-count [] t x = refl
  set-count (z ∷ xs) zero x = refl
  set-count (z ∷ xs) (suc t) x = ap suc (set-count xs t x)

  module _ (settled : List (Option Room)) (t n : ℕ) (is : slice_get settled t ≡ Some None) (fits : (rooms : List Room) → ExtendsSettled settled rooms → n ≡ need p rooms t) (are : AreSettled p kinds settled) where
    abbrev more : List (Option Room)
    more = slice_set settled t (Some (Bits n))

    less : (rooms : List Room) → ExtendsSettled more rooms → ExtendsSettled settled rooms
    less rooms extends k room e =
        extends k room (set-kept settled t k (Some (Bits n)) (Some room) (λ same. absurd (cc (is, e, ap (λ j. slice_get settled j) same))) e)

    kept : (k : ℕ) (room : Option Room) → IsSettled p kinds settled k room → IsSettled p kinds more k room
    kept k None h = h
    kept k (Some room) h = λ rooms extends. h rooms (less rooms extends)

    here : (rooms : List Room) → ExtendsSettled settled rooms → IsRoom p kinds rooms t (Bits n)
    here rooms extends = let packed = are.each t None is in (packed.0, packed.1, fits rooms extends)

    pub settled-more : AreSettled p kinds more
    settled-more = record {
      count = set-count settled t (Some (Bits n)) ∙ are.count;
      each = λ k room e. elim (set-other settled t k (Some (Bits n)) room e) [
        | inl new ↦ subst (λ j. IsSettled p kinds more j room) (sym new.0) (subst (λ (r : Option Room). IsSettled p kinds more t r) new.1 (λ rooms extends. here rooms (less rooms extends)))
        | inr old ↦ kept k room (are.each k room old)
      ];
      only = λ rooms are_rooms k room e. elim (set-other settled t k (Some (Bits n)) (Some room) e) [
        | inl new ↦
            (let lt = slice_get_within settled t None is in
            let at = room-at rooms are_rooms t (Bits n) (let c = are.count in omega (arith, lt, c)) (here rooms (are.only rooms are_rooms)) in
            ap (λ j. slice_get rooms j) new.0 ∙ at ∙ new.1)
        | inr old ↦ are.only rooms are_rooms k room old
      ];
    }

  -- all rooms
  map-get : (rooms : List Room) (t : ℕ) (room : Room) → slice_get rooms t ≡ Some room → slice_get (map (λ (r : Room). Some r) rooms) t ≡ Some (Some room)
  map-get [] t room e = absurd cc
  map-get (r ∷ rooms) zero room e = ap Some e
  map-get (r ∷ rooms) (suc t) room e = map-get rooms t room e

  get-map : (rooms : List Room) (t : ℕ) (room : Room) → slice_get (map (λ (r : Room). Some r) rooms) t ≡ Some (Some room) → slice_get rooms t ≡ Some room
  get-map [] t room e = absurd cc
  get-map (r ∷ rooms) zero room e = same_Some (Some r) (Some room) e
  get-map (r ∷ rooms) (suc t) room e = get-map rooms t room e

  same-lists : (xs ys : List Room) → length xs ≡ length ys → ((t : ℕ) (room : Room) → slice_get ys t ≡ Some room → slice_get xs t ≡ Some room) → xs ≡ ys
  same-lists [] [] e same = refl
  same-lists [] (y ∷ ys) e same = absurd cc
  same-lists (x ∷ xs) [] e same = absurd cc
  same-lists (x ∷ xs) (y ∷ ys) e same =
      let head = same_Some x y (same 0 y refl) in
      let tail = same-lists xs ys (omega (arith, e)) (λ t room at. same (suc t) room at) in
      ap (λ z. z ∷ xs) head ∙ ap (λ (zs : List Room). y ∷ zs) tail

  pub all-settled : (settled : List (Option Room)) (rooms : List Room) → AreSettled p kinds settled → map (λ (r : Room). Some r) rooms ≡ settled → AreTheRooms p kinds rooms
  all-settled settled rooms are is =
      let extends : ExtendsSettled settled rooms = λ t room e. get-map rooms t room (ap (λ (xs : List (Option Room)). slice_get xs t) is ∙ e) in
      let at : (t : ℕ) (room : Room) → slice_get rooms t ≡ Some room → slice_get settled t ≡ Some (Some room) =
      λ t room e. ap (λ (xs : List (Option Room)). slice_get xs t) (sym is) ∙ map-get rooms t room e in
      let count : length rooms ≡ length p.types = sym (length-map rooms (λ (r : Room). Some r)) ∙ ap (λ (xs : List (Option Room)). length xs) is ∙ are.count in
      record {
        are = record { count = count; each = λ t room e. are.each t (Some room) (at t room e) rooms extends };
        only = λ others are_others. same-lists others rooms (are_others.count ∙ sym count) (λ t room e. are.only others are_others t room (at t room e));
      }
