-- Reads form by form, their induction, and that what they mean stays where their slots do.
use Rattle.std.proofs.Common.{◌≡◌, ℕ, ◌*◌, ◌%◌, ◌^◌, ◌<◌, ◌&&◌, Bool, true, List, [], ◌∷◌, map, Option, Some, None, Result, Ok, Err, refl, sym, subst, ap, ◌∙◌, arith}
use Rattle.std.proofs.lemmas.Bool.Decides.{nat_tests}
use Rattle.std.specs.Prelude.{slice_index, nat_lt, nat_le}
use Rattle.std.specs.List.{list_all}
use Rattle.std.proofs.lemmas.Bool.{and_parts}
use denote.Hole.Holds.{Such}
use Rattle.rb_bits.specs.Words.{take_of, put_of}
use Rattle.rb_bytes.specs.Memory.{Memory, load_of}
use Rattle.rb_bytes.specs.Laws.{Extends}
use Rattle.rb_bytes.specs.declared.fault.Trap.{Trap}
use Rattle.rb_bytes.proofs.MemoryLemmas.{load_extends}
use Rattle.rb_target.specs.Growth.{Keeps}
use Rattle.rb_fragment.specs.declared.reads.Read.{Read, Slot, Number, Bits, Address, Loaded, Joined}
use Rattle.rb_fragment.specs.declared.reads.Read as X
use Rattle.rb_fragment.specs.declared.reads.Read.TheBlock as Block
use Rattle.rb_fragment.specs.declared.reads.Read.TheViews.{roll-Share}
use Rattle.rb_fragment.specs.declared.reads.Read.TheOpen as R
use Rattle.rb_fragment.specs.declared.reads.Read.TheOpen.{Read-F}
use Rattle.rb_fragment.specs.declared.reads.Read.TheFolds as Folds
use Rattle.rb_fragment.specs.declared.reads.Read.TheFolds.{fold-roll-Read, fold_out-Share}
use Rattle.rb_fragment.specs.declared.reads.Share.{Share, Share-F}
use Rattle.rb_fragment.specs.Reads.{ReadMeaning, where_some, word_of_load, Meant, joined_over, mean_step, share_step, mean, meant_of, is_range, is_width, fits_step, share_fits, fits, fits_share}

-- Meaning

pub mean-Slot : (x : ℕ) (s : List ℕ) (m : Memory) → mean (Slot x) s m ≡ Some (slice_index s x)
unfolding X.roll-Read denote.Hole.Carrier.roll
mean-Slot x s m = ap (λ (r : ReadMeaning). r s m) (fold-roll-Read ReadMeaning Meant mean_step share_step (R.Slot x))

pub mean-Number : (c : ℕ) (s : List ℕ) (m : Memory) → mean (Number c) s m ≡ Some c
unfolding X.roll-Read denote.Hole.Carrier.roll
mean-Number c s m = ap (λ (r : ReadMeaning). r s m) (fold-roll-Read ReadMeaning Meant mean_step share_step (R.Number c))

pub mean-Bits : (r : Read) (o l : ℕ) (s : List ℕ) (m : Memory) → mean (Bits r o l) s m ≡ where_some (mean r s m) (λ w. Some (take_of w o l))
unfolding X.roll-Read denote.Hole.Carrier.roll
mean-Bits r o l s m = ap (λ (q : ReadMeaning). q s m) (fold-roll-Read ReadMeaning Meant mean_step share_step (R.Bits r o l))

pub mean-Address : (r : Read) (o l align : ℕ) (s : List ℕ) (m : Memory) → mean (Address r o l align) s m ≡ where_some (mean r s m) (λ w. Some (take_of w o l * align % 2 ^ 64))
unfolding X.roll-Read denote.Hole.Carrier.roll
mean-Address r o l align s m = ap (λ (q : ReadMeaning). q s m) (fold-roll-Read ReadMeaning Meant mean_step share_step (R.Address r o l align))

pub mean-Loaded : (r : Read) (byte width : ℕ) (s : List ℕ) (m : Memory) → mean (Loaded r byte width) s m ≡ where_some (mean r s m) (λ base. word_of_load (load_of m base byte width))
unfolding X.roll-Read denote.Hole.Carrier.roll
mean-Loaded r byte width s m = ap (λ (q : ReadMeaning). q s m) (fold-roll-Read ReadMeaning Meant mean_step share_step (R.Loaded r byte width))

pub mean-Joined : (ps : List Share) (s : List ℕ) (m : Memory) → mean (Joined ps) s m ≡ joined_over 0 (map meant_of ps) s m
unfolding X.roll-Read denote.Hole.Carrier.roll
mean-Joined ps s m = ap (λ (q : ReadMeaning). q s m) (fold-roll-Read ReadMeaning Meant mean_step share_step (R.Joined ps))

abbrev pub meant : Share → Meant
meant p = record { reading = mean p.read; o = p.o; l = p.l; a = p.a }

pub meant-is : (p : Share) → meant_of p ≡ meant p
meant-is p = fold_out-Share ReadMeaning Meant mean_step share_step p

-- Fitting

pub fits-Slot : (n x : ℕ) → fits n (Slot x) ≡ nat_lt x n
unfolding X.roll-Read denote.Hole.Carrier.roll
fits-Slot n x = fold-roll-Read Bool Bool (fits_step n) share_fits (R.Slot x)

pub fits-Bits : (n : ℕ) (r : Read) (o l : ℕ) → fits n (Bits r o l) ≡ (fits n r && is_range o l)
unfolding X.roll-Read denote.Hole.Carrier.roll
fits-Bits n r o l = fold-roll-Read Bool Bool (fits_step n) share_fits (R.Bits r o l)

pub fits-Address : (n : ℕ) (r : Read) (o l align : ℕ) → fits n (Address r o l align) ≡ (fits n r && is_range o l)
unfolding X.roll-Read denote.Hole.Carrier.roll
fits-Address n r o l align = fold-roll-Read Bool Bool (fits_step n) share_fits (R.Address r o l align)

pub fits-Loaded : (n : ℕ) (r : Read) (byte width : ℕ) → fits n (Loaded r byte width) ≡ (fits n r && (nat_le byte 511 && is_width width))
unfolding X.roll-Read denote.Hole.Carrier.roll
fits-Loaded n r byte width = fold-roll-Read Bool Bool (fits_step n) share_fits (R.Loaded r byte width)

pub fits-Joined : (n : ℕ) (ps : List Share) → fits n (Joined ps) ≡ list_all (λ b. b) (map (fits_share n) ps)
unfolding X.roll-Read denote.Hole.Carrier.roll
fits-Joined n ps = fold-roll-Read Bool Bool (fits_step n) share_fits (R.Joined ps)

pub fits-Share : (n : ℕ) (p : Share) → fits_share n p ≡ (fits n p.read && (is_range p.o p.l && is_range p.a p.l))
fits-Share n p = fold_out-Share Bool Bool (fits_step n) share_fits p

-- Induction

-- of each share's read
abbrev pub Each : (Read → Type 0) → List Share → Type 0
Each P [] = Unit {0}
Each P (p ∷ ps) = P p.read × Each P ps

pub record Cases (P : Read → Type 0) : Type 0 where
  pub slot : (x : ℕ) → P (Slot x)
  pub number : (c : ℕ) → P (Number c)
  pub bits : (r : Read) (o l : ℕ) → P r → P (Bits r o l)
  pub address : (r : Read) (o l align : ℕ) → P r → P (Address r o l align)
  pub load : (r : Read) (byte width : ℕ) → P r → P (Loaded r byte width)
  pub joined : (ps : List Share) → Each P ps → P (Joined ps)

module _ (P : Read → Type 0) where
  abbrev InShare : Share → Type 0
  InShare p = P p.read

  abbrev SubRead : Type 0
  SubRead = Such Block.the_family (Folds.claims P InShare) Block.member-Read

  abbrev SubShare : Type 0
  SubShare = Such Block.the_family (Folds.claims P InShare) Block.member-Share

  each_share : (xs : List SubShare) → Each P (map (λ (x : SubShare). x.0) xs)
  each_share [] = tt
  each_share (x ∷ xs) = (x.1, each_share xs)

  read_layer : Cases P → (x : Read-F Read Share) (y : Read-F SubRead SubShare) → X.map-Read SubRead SubShare Read Share (λ e. e.0) (λ e. e.0) y ≡ x → P (X.roll-Read x)
  unfolding X.roll-Read denote.Hole.Carrier.roll
  read_layer cases x (R.Slot a) e = subst (λ (l : Read-F Read Share). P (X.roll-Read l)) e (cases.slot a)
  read_layer cases x (R.Number c) e = subst (λ (l : Read-F Read Share). P (X.roll-Read l)) e (cases.number c)
  read_layer cases x (R.Bits r o l) e = subst (λ (l : Read-F Read Share). P (X.roll-Read l)) e (cases.bits r.0 o l r.1)
  read_layer cases x (R.Address r o l align) e = subst (λ (l : Read-F Read Share). P (X.roll-Read l)) e (cases.address r.0 o l align r.1)
  read_layer cases x (R.Loaded r byte width) e = subst (λ (l : Read-F Read Share). P (X.roll-Read l)) e (cases.load r.0 byte width r.1)
  read_layer cases x (R.Joined ps) e = subst (λ (l : Read-F Read Share). P (X.roll-Read l)) e (cases.joined (map (λ (p : SubShare). p.0) ps) (each_share ps))

  share_layer : (x : Share-F Read Share) (y : Share-F SubRead SubShare) → Folds.map-Share SubRead SubShare Read Share (λ e. e.0) (λ e. e.0) y ≡ x → InShare (roll-Share x)
  unfolding denote.Hole.Carrier.roll
  share_layer x y e = subst (λ (l : Share-F Read Share). InShare (roll-Share l)) e y.read.1

  pub induction : Cases P → (r : Read) → P r
  induction cases = Folds.ind-Read P InShare (read_layer cases) share_layer

-- What stays

where_same : (o : Option ℕ) (g h : ℕ → Option ℕ) → ((w : ℕ) → g w ≡ h w) → where_some o g ≡ where_some o h
where_same None g h e = refl
where_same (Some w) g h e = e w

module _ (n : ℕ) (s s' : List ℕ) (m : Memory) (k : Keeps n s s') where
  abbrev Stays : Read → Type 0
  Stays r = fits n r ≡ true → mean r s' m ≡ mean r s m

  over_stays : (ps : List Share) → Each Stays ps → list_all (λ b. b) (map (fits_share n) ps) ≡ true → (x : ℕ) → joined_over x (map meant_of ps) s' m ≡ joined_over x (map meant_of ps) s m
  over_stays [] each h x = refl
  over_stays (p ∷ ps) each h x =
      let f = and_parts (fits_share n p) (list_all (λ b. b) (map (fits_share n) ps)) h in
      let g = and_parts (fits n p.read) _ (sym (fits-Share n p) ∙ f.0) in
      let is = meant-is p in
      ap (λ (q : Meant). where_some (q.reading s' m) (λ w. joined_over (put_of x q.a q.l (take_of w q.o q.l)) (map meant_of ps) s' m)) is
      ∙ ap (λ v. where_some v (λ w. joined_over (put_of x p.a p.l (take_of w p.o p.l)) (map meant_of ps) s' m)) (each.0 g.0)
      ∙ where_same (mean p.read s m) _ _ (λ w. over_stays ps each.1 f.1 (put_of x p.a p.l (take_of w p.o p.l)))
      ∙ sym (ap (λ (q : Meant). where_some (q.reading s m) (λ w. joined_over (put_of x q.a q.l (take_of w q.o q.l)) (map meant_of ps) s m)) is)

  stays : (r : Read) → Stays r
  stays = induction Stays (record {
    slot = λ x h.
        let lt : x < n = (let t = sym (fits-Slot n x) ∙ h in grind (arith, nat_tests, t)) in
        mean-Slot x s' m ∙ ap Some (k.same x lt) ∙ sym (mean-Slot x s m);
    number = λ c h. mean-Number c s' m ∙ sym (mean-Number c s m);
    bits = λ r o l ih h.
        let f = and_parts (fits n r) (is_range o l) (sym (fits-Bits n r o l) ∙ h) in
        mean-Bits r o l s' m ∙ ap (λ v. where_some v (λ w. Some (take_of w o l))) (ih f.0) ∙ sym (mean-Bits r o l s m);
    address = λ r o l align ih h.
        let f = and_parts (fits n r) (is_range o l) (sym (fits-Address n r o l align) ∙ h) in
        mean-Address r o l align s' m ∙ ap (λ v. where_some v (λ w. Some (take_of w o l * align % 2 ^ 64))) (ih f.0) ∙ sym (mean-Address r o l align s m);
    load = λ r byte width ih h.
        let f = and_parts (fits n r) _ (sym (fits-Loaded n r byte width) ∙ h) in
        mean-Loaded r byte width s' m ∙ ap (λ v. where_some v (λ base. word_of_load (load_of m base byte width))) (ih f.0) ∙ sym (mean-Loaded r byte width s m);
    joined = λ ps each h. mean-Joined ps s' m ∙ over_stays ps each (sym (fits-Joined n ps) ∙ h) 0 ∙ sym (mean-Joined ps s m);
  })

-- a read over kept slots means what it meant
pub mean-kept : (n : ℕ) (s s' : List ℕ) (m : Memory) → Keeps n s s' → (r : Read) → fits n r ≡ true → mean r s' m ≡ mean r s m
mean-kept n s s' m k r h = stays n s s' m k r h

pub over-kept : (n : ℕ) (s s' : List ℕ) (m : Memory) → Keeps n s s' → (ps : List Share) → list_all (λ b. b) (map (fits_share n) ps) ≡ true → (x : ℕ)
    → joined_over x (map meant_of ps) s' m ≡ joined_over x (map meant_of ps) s m
over-kept n s s' m k ps h x = over_stays n s s' m k ps (each ps) h x
  where
    each : (qs : List Share) → Each (λ r. fits n r ≡ true → mean r s' m ≡ mean r s m) qs
    each [] = tt
    each (q ∷ qs) = (stays n s s' m k q.read, each qs)

-- what is read in a memory is read in one that has grown
some_of : (o : Option ℕ) (go : ℕ → Option ℕ) (x : ℕ) → where_some o go ≡ Some x → (w : ℕ) × (o ≡ Some w) × (go w ≡ Some x)
some_of None go x e = cc
some_of (Some w) go x e = (w, refl, e)

loaded_more : (m m' : Memory) → Extends m m' → (base byte width x : ℕ) (r : Result ℕ Trap) → load_of m base byte width ≡ r → word_of_load r ≡ Some x → word_of_load (load_of m' base byte width) ≡ Some x
loaded_more m m' g base byte width x (Ok w) is e = ap word_of_load (load_extends m m' base byte width w g is) ∙ e
loaded_more m m' g base byte width x (Err t) is e = cc

module _ (s : List ℕ) (m m' : Memory) (g : Extends m m') where
  abbrev Grows : Read → Type 0
  Grows r = (x : ℕ) → mean r s m ≡ Some x → mean r s m' ≡ Some x

  over_grows : (ps : List Share) → Each Grows ps → (n x : ℕ) → joined_over n (map meant_of ps) s m ≡ Some x → joined_over n (map meant_of ps) s m' ≡ Some x
  over_grows [] each n x e = e
  over_grows (p ∷ ps) each n x e =
      let is = meant-is p in
      let e1 = sym (ap (λ (q : Meant). where_some (q.reading s m) (λ w. joined_over (put_of n q.a q.l (take_of w q.o q.l)) (map meant_of ps) s m)) is) ∙ e in
      let h = some_of (mean p.read s m) (λ w. joined_over (put_of n p.a p.l (take_of w p.o p.l)) (map meant_of ps) s m) x e1 in
      ap (λ (q : Meant). where_some (q.reading s m') (λ w. joined_over (put_of n q.a q.l (take_of w q.o q.l)) (map meant_of ps) s m')) is
      ∙ ap (λ v. where_some v (λ w. joined_over (put_of n p.a p.l (take_of w p.o p.l)) (map meant_of ps) s m')) (each.0 h.0 h.1)
      ∙ over_grows ps each.1 (put_of n p.a p.l (take_of h.0 p.o p.l)) x h.2

  pub mean-grown : (r : Read) (x : ℕ) → mean r s m ≡ Some x → mean r s m' ≡ Some x
  mean-grown = induction Grows (record {
    slot = λ a x e. mean-Slot a s m' ∙ sym (mean-Slot a s m) ∙ e;
    number = λ c x e. mean-Number c s m' ∙ sym (mean-Number c s m) ∙ e;
    bits = λ r o l ih x e.
        let h = some_of (mean r s m) (λ w. Some (take_of w o l)) x (sym (mean-Bits r o l s m) ∙ e) in
        mean-Bits r o l s m' ∙ ap (λ v. where_some v (λ w. Some (take_of w o l))) (ih h.0 h.1) ∙ h.2;
    address = λ r o l align ih x e.
        let h = some_of (mean r s m) (λ w. Some (take_of w o l * align % 2 ^ 64)) x (sym (mean-Address r o l align s m) ∙ e) in
        mean-Address r o l align s m' ∙ ap (λ v. where_some v (λ w. Some (take_of w o l * align % 2 ^ 64))) (ih h.0 h.1) ∙ h.2;
    load = λ r byte width ih x e.
        let h = some_of (mean r s m) (λ base. word_of_load (load_of m base byte width)) x (sym (mean-Loaded r byte width s m) ∙ e) in
        mean-Loaded r byte width s m' ∙ ap (λ v. where_some v (λ base. word_of_load (load_of m' base byte width))) (ih h.0 h.1)
        ∙ loaded_more m m' g h.0 byte width x (load_of m h.0 byte width) refl h.2;
    joined = λ ps each x e. mean-Joined ps s m' ∙ over_grows ps each 0 x (sym (mean-Joined ps s m) ∙ e);
  })
