-- What stands at a location as data means what is read there, and code can be made of it.
use Rattle.std.proofs.Common.{◌≡◌, ◌==◌, if◌then◌else◌, Bool, false, eqb-true, ℕ, zero, suc, ◌+◌, ◌*◌, ◌/◌, ◌%◌, ◌^◌, ◌<◌, ◌≤◌, ◌&&◌, inl, inr, true, List, [], ◌∷◌, length, map, Option, Some, None, Result, Ok, Err, refl, sym, subst, ap, ◌∙◌, arith}
use Rattle.std.proofs.lemmas.Bool.Decides.{nat_tests}
use Rattle.std.proofs.Math.Nat.{mod-eq_of_lt}
use Rattle.std.proofs.Math.Pow.{pow_mono}
use Rattle.std.proofs.lemmas.Nat.{pow-add}
use Rattle.std.specs.Prelude.{slice_get, slice_index, nat_le}
use Rattle.std.proofs.lemmas.Bool.{and_parts}
use Rattle.std.proofs.lemmas.List.{length-map}
use Rattle.std.proofs.lemmas.Option.{same_Some}
use Rattle.rb_core.specs.declared.layout_decl.Loc.{Loc}
use Rattle.rb_core.specs.declared.layout_decl.Step.{Step}
use Rattle.rb_bits.specs.Words.{IsRange, take_of}
use Rattle.rb_bits.proofs.RangeLemmas.{take_take, take_whole}
use Rattle.rb_bytes.specs.Memory.{Memory, IsGood, IsWidth, byte_at, then_byte, read_le, load_of}
use Rattle.rb_bytes.specs.declared.fault.Trap.{Trap}
use Rattle.rb_bytes.proofs.GrowthLemmas.{address_small}
use Rattle.rb_bytes.proofs.MemoryLemmas.{load_ok}
use Rattle.rb_target.specs.Meaning.{slots_at}
use Rattle.rb_target.specs.Sheet.{Sheet}
use Rattle.rb_rel.specs.Reading.{on_loaded, read_from, read_first, read_loc}
use Rattle.rb_fragment.specs.declared.reads.Read.{Read, Slot, Bits, Address, Loaded}
use Rattle.rb_fragment.specs.Reads.{where_some, word_of_load, mean, is_range, is_width, fits, MakesRead}
use Rattle.rb_fragment.specs.WordReads.{AreMeant, AllFit}
use Rattle.rb_fragment.proofs.MakingAll.{meant-at, slots_fit, slots_meant}
use Rattle.rb_fragment.proofs.Pieces.{straight_weaken}
use Rattle.rb_fragment.proofs.ReadForms.{mean-Bits, mean-Address, mean-Loaded, fits-Bits, fits-Address, fits-Loaded}
use Rattle.rb_fetch.specs.Fetching.{StepsFit, LocFits, IsReadAt, FetchesLoc}
use Rattle.rb_fetch.specs.inner.Fetching.{AreSmall, FetchesAt}
use Rattle.rb_fetch.specs.declared.span.Span.{Span}
use Rattle.rb_compose.specs.Counts.{capped_bits}
use Rattle.rb_fetch.specs.inner.Reads.{FitsWidth, Spans, IsSameRange, ReadsRange, is_all, reach, step_span, span_on, read_or, SpansLoc}

-- Fitting

capped-is : (n : ℕ) → n ≤ 64 → capped_bits n ≡ n
capped-is n le = omega (arith, le)

range_yes : (o l : ℕ) → IsRange o l → is_range (capped_bits o) (capped_bits l) ≡ true
range_yes o l r =
    let co = capped-is o (omega (arith, r.0, r.1)) in
    let cl = capped-is l (omega (arith, r.1)) in
    let low : nat_le 1 l ≡ true = grind (arith, nat_tests, r.0) in
    let high : nat_le (o + l) 64 ≡ true = grind (arith, nat_tests, r.1) in
    ap (λ k. is_range k (capped_bits l)) co ∙ ap (λ k. is_range o k) cl ∙ ap (λ t. t && nat_le (o + l) 64) low ∙ high

width_capped : (w : ℕ) → IsWidth w → capped_bits w ≡ w
width_capped w (inl e) = omega (arith, e)
width_capped w (inr (inl e)) = omega (arith, e)
width_capped w (inr (inr (inl e))) = omega (arith, e)
width_capped w (inr (inr (inr e))) = omega (arith, e)

width_yes : (w : ℕ) → IsWidth w → is_width w ≡ true
width_yes w (inl e) = ap is_width e
width_yes w (inr (inl e)) = ap is_width e
width_yes w (inr (inr (inl e))) = ap is_width e
width_yes w (inr (inr (inr e))) = ap is_width e

-- All bits of a word

all_is : (width : Option ℕ) (o l : ℕ) → is_all width o l ≡ true → (o ≡ 0) × (width ≡ Some l)
all_is None o l h = absurd cc
all_is (Some width) o l h =
    let e = and_parts (o == 0) (l == width) h in (eqb-true o 0 e.0, ap Some (sym (eqb-true l width e.1)))

reach_range : (width : Option ℕ) (o l : ℕ) → IsRange o l → IsRange o (reach width o l)
reach_range width o l range = go (is_all width o l) refl
  where
    go : (b : Bool) → is_all width o l ≡ b → IsRange o (if b then 64 else l)
    go true is = let low = (all_is width o l is).0 in (omega arith, omega (arith, low))
    go false is = range

-- the bits over which a range reaches are those of the range
reach_bits : (width : Option ℕ) (o l w : ℕ) → IsRange o l → FitsWidth width w → take_of w o (reach width o l) ≡ take_of w o l
reach_bits width o l w range small = go (is_all width o l) refl
  where
    go : (b : Bool) → is_all width o l ≡ b → take_of w o (if b then 64 else l) ≡ take_of w o l
    go true is =
        let all = all_is width o l is in
        let lt : w < 2 ^ l = subst (λ v. FitsWidth v w) all.1 small in
        let le : l ≤ 64 = omega (arith, range.1) in
        let more : 2 ^ l ≤ 2 ^ 64 = pow_mono le in
        ap (λ i. take_of w i 64) all.0 ∙ take_whole w 64 (omega (arith, lt, more)) ∙ sym (take_whole w l lt) ∙ ap (λ i. take_of w i l) (sym all.0)
    go false is = refl

module _ (n : ℕ) where
  address_fits : (r : Read) (o l align : ℕ) → fits n r ≡ true → IsRange o l → fits n (Address r (capped_bits o) (capped_bits l) align) ≡ true
  address_fits r o l align f range = fits-Address n r (capped_bits o) (capped_bits l) align ∙ ap (λ t. t && is_range (capped_bits o) (capped_bits l)) f ∙ range_yes o l range

  loaded_fits : (r : Read) (byte width : ℕ) → fits n r ≡ true → byte ≤ 511 → IsWidth width → fits n (Loaded r byte (capped_bits width)) ≡ true
  loaded_fits r byte width f low wide =
      let few : nat_le byte 511 ≡ true = grind (arith, nat_tests, low) in
      fits-Loaded n r byte (capped_bits width) ∙ ap (λ t. t && (nat_le byte 511 && is_width (capped_bits width))) f ∙ ap (λ t. t && is_width (capped_bits width)) few
      ∙ ap is_width (width_capped width wide) ∙ width_yes width wide

  pub span_fits : (steps : List Step) (p : Span) → fits n p.read ≡ true → StepsFit p.o p.l steps → fits n (span_on p steps).read ≡ true
  span_fits [] p f h = f
  span_fits (s ∷ steps) p f h =
      span_fits steps (step_span p s)
      (loaded_fits (Address p.read (capped_bits p.o) (capped_bits (reach p.width p.o p.l)) s.align) s.byte s.width (address_fits p.read p.o (reach p.width p.o p.l) s.align f (reach_range p.width p.o p.l h.0)) h.1 h.2) h.3

  pub word_fits : (words : List Read) (k : ℕ) → AllFit n words → k < length words → fits n (read_or (slice_get words k)) ≡ true
  word_fits [] k all lt = absurd (omega (arith, lt))
  word_fits (r ∷ words) zero all lt = all.0
  word_fits (r ∷ words) (suc k) all lt = word_fits words k all.1 (omega (arith, lt))

  pub bits_fit : (p : Span) → fits n p.read ≡ true → IsRange p.o p.l → fits n (Bits p.read (capped_bits p.o) (capped_bits p.l)) ≡ true
  bits_fit p f range = fits-Bits n p.read (capped_bits p.o) (capped_bits p.l) ∙ ap (λ t. t && is_range (capped_bits p.o) (capped_bits p.l)) f ∙ range_yes p.o p.l range

-- a step goes on from any range
range_first : (steps : List Step) (o l : ℕ) → StepsFit o l steps → IsRange o l
range_first [] o l h = h
range_first (s ∷ steps) o l h = h.0

fit_first : (steps : List Step) (o l o' l' : ℕ) → IsRange o' l' → StepsFit o l steps → StepsFit o' l' steps
fit_first [] o l o' l' r h = r
fit_first (s ∷ steps) o l o' l' r h = (r, h.1, h.2, h.3)

range_last : (steps : List Step) (p : Span) → StepsFit p.o p.l steps → let q = span_on p steps in IsRange q.o q.l
range_last [] p h = h
range_last (s ∷ steps) p h = range_last steps (step_span p s) h.3

module _ (words : List Read) (width : Option ℕ) (loc : Loc) (span : Span) (at : SpansLoc words width loc span) (h : LocFits loc) where
  pub first_fits : StepsFit at.first.o at.first.l loc.steps
  first_fits = fit_first loc.steps loc.o loc.l at.first.o at.first.l (at.begins.range (range_first loc.steps loc.o loc.l h)) h

  -- the range at a location can be made
  pub loc_range : IsRange span.o span.l
  loc_range = subst (λ (q : Span). IsRange q.o q.l) (sym at.ends) (range_last loc.steps at.first first_fits)

  pub loc_fits : (k : ℕ) → AllFit k words → loc.word < length words → fits k span.read ≡ true
  loc_fits k all lt = subst (λ (q : Span). fits k q.read ≡ true) (sym at.ends) (span_fits k loc.steps at.first (at.begins.fit k (word_fits k words loc.word all lt)) first_fits)

-- Words are as small as their widths

read_small : (bytes : List (Option ℕ)) (n at r : ℕ) → ((a b : ℕ) → byte_at bytes a ≡ Some b → b < 256) → read_le bytes n at ≡ Ok r → r < 2 ^ (8 * n)
read_small bytes zero at r small e = let same : 0 ≡ r = (let z : ◌≡◌ {A = Result ℕ Trap} (Ok 0) (Ok r) = e in cc) in omega (arith, same)
read_small bytes (suc n) at r small e = go (byte_at bytes at) refl (read_le bytes n (at + 1)) refl e (λ q there. read_small bytes n (at + 1) q small there)
  where
    go : (o : Option ℕ) → byte_at bytes at ≡ o → (rest : Result ℕ Trap) → read_le bytes n (at + 1) ≡ rest → then_byte at o rest ≡ Ok r → ((q : ℕ) → read_le bytes n (at + 1) ≡ Ok q → q < 2 ^ (8 * n)) → r < 2 ^ (8 * suc n)
    go None is rest there h below = absurd cc
    go (Some b) is (Err t) there h below = absurd cc
    go (Some b) is (Ok q) there h below =
        let same : b + 256 * q ≡ r = (let z : ◌≡◌ {A = Result ℕ Trap} (Ok (b + 256 * q)) (Ok r) = h in cc) in
        let low = small at b is in
        let rest = below q there in
        let step : 8 * suc n ≡ 8 + 8 * n = omega arith in
        let more : 2 ^ (8 * suc n) ≡ 256 * 2 ^ (8 * n) = ap (λ k. 2 ^ k) step ∙ pow-add 2 8 (8 * n) in
        omega (arith, same, low, rest, more)

load_small : (m : Memory) (base byte width r : ℕ) → IsGood m → load_of m base byte width ≡ Ok r → r < 2 ^ width
load_small m base byte width r good e =
    let a = read_small m.bytes (width / 8) (base + byte) r good.small (load_ok m base byte width r e).1 in
    let le : 8 * (width / 8) ≤ width = omega arith in
    let more = pow_mono le in omega (arith, a, more)

-- Meaning

-- a read that comes to something has loaded something
after_some : (r : Result ℕ Trap) (go : ℕ → Rattle.std.specs.Prelude.Option ℕ) (x : ℕ) → on_loaded r go ≡ Some x → (w : ℕ) × (r ≡ Ok w) × (go w ≡ Some x)
after_some (Ok w) go x e = (w, refl, e)
after_some (Err t) go x e = absurd cc

module _ (s : List ℕ) (m : Memory) (good : IsGood m) (x : ℕ) where
  span_means : (steps : List Step) (p : Span) (b : ℕ) → StepsFit p.o p.l steps → (h : Spans p s m b) → read_from m h.word p.o p.l steps ≡ Some x → Spans (span_on p steps) s m x
  span_means [] p b fit h e = record { word = h.word; is_word = h.is_word; small = h.small; are_bits = sym (same_Some (take_of h.word p.o p.l) x e) }
  span_means (t ∷ steps) p b fit h e =
      let w = h.word in
      let o = p.o in
      let l = p.l in
      let n = reach p.width o l in
      let range = reach_range p.width o l fit.0 in
      let co = capped-is o (omega (arith, range.0, range.1)) in
      let cn = capped-is n (omega (arith, range.1)) in
      let same = reach_bits p.width o l w fit.0 h.small in
      let cw = width_capped t.width fit.2 in
      let a = take_of w o l * t.align in
      let q = after_some (load_of m a t.byte t.width) (λ k. read_from m k t.o t.l steps) x e in
      let low = address_small m a t.byte t.width q.0 good q.1 in
      let whole : a % 2 ^ 64 ≡ a = mod-eq_of_lt (omega (arith, low)) in
      let address = Address p.read (capped_bits o) (capped_bits n) t.align in
      let at : mean address s m ≡ Some a =
      mean-Address p.read (capped_bits o) (capped_bits n) t.align s m ∙ ap (λ v. where_some v (λ k. Some (take_of k (capped_bits o) (capped_bits n) * t.align % 2 ^ 64))) h.is_word
      ∙ ap (λ k. Some (take_of w k (capped_bits n) * t.align % 2 ^ 64)) co ∙ ap (λ k. Some (take_of w o k * t.align % 2 ^ 64)) cn ∙ ap (λ k. Some (k * t.align % 2 ^ 64)) same ∙ ap (λ k. Some k) whole in
      let next : mean (Loaded address t.byte (capped_bits t.width)) s m ≡ Some q.0 =
      mean-Loaded address t.byte (capped_bits t.width) s m ∙ ap (λ v. where_some v (λ base. word_of_load (load_of m base t.byte (capped_bits t.width)))) at
      ∙ ap (λ k. word_of_load (load_of m a t.byte k)) cw ∙ ap word_of_load q.1 in
      span_means steps (step_span p t) (take_of q.0 t.o t.l) fit.3
      (record { word = q.0; is_word = next; small = load_small m a t.byte t.width q.0 good q.1; are_bits = refl }) q.2

  -- what is read behind a range is told by its bits
  from_bits : (steps : List Step) (w o l w' o' l' : ℕ) → take_of w o l ≡ take_of w' o' l' → read_from m w o l steps ≡ read_from m w' o' l' steps
  from_bits [] w o l w' o' l' e = ap Some e
  from_bits (t ∷ steps) w o l w' o' l' e = ap (λ k. on_loaded (load_of m (k * t.align) t.byte t.width) (λ y. read_from m y t.o t.l steps)) e

  -- what is read at a location is the range of the read there
  pub loc_means : (words : List Read) (ws : List ℕ) (width : Option ℕ) (loc : Loc) (span : Span) → SpansLoc words width loc span → LocFits loc → AreMeant words s m ws
      → ((w : ℕ) → slice_get ws loc.word ≡ Some w → FitsWidth width w) → read_loc ws m loc ≡ Some x → Spans span s m x
  loc_means words ws width loc span begin h meant small e = at_word (slice_get ws loc.word) refl e
    where
      at_read : (o : Option Read) (w : ℕ) (r : Read) → o ≡ Some r → mean r s m ≡ Some w → mean (read_or o) s m ≡ Some w
      at_read None w r same is = absurd cc
      at_read (Some q) w r same is = ap (λ (y : Read). mean y s m) (same_Some q r same) ∙ is

      at_word : (o : Option ℕ) → slice_get ws loc.word ≡ o → read_first m o loc ≡ Some x → Spans span s m x
      at_word None is k = absurd cc
      at_word (Some w) is k =
          let r = meant-at words s m ws loc.word w meant is in
          let b = take_of w loc.o loc.l in
          let f = begin.begins.means s m b (record { word = w; is_word = at_read (slice_get words loc.word) w r.0 r.1 r.2; small = small w is; are_bits = refl }) in
          let first = begin.first in
          let reads : read_from m f.word first.o first.l loc.steps ≡ Some x = from_bits loc.steps f.word first.o first.l w loc.o loc.l (sym f.are_bits) ∙ k in
          subst (λ (q : Span). Spans q s m x) (sym begin.ends) (span_means loc.steps first b (first_fits words width loc span begin h) f reads)

-- Ranges as reads

bits_mean : (s : List ℕ) (m : Memory) (x : ℕ) (p : Span) → IsRange p.o p.l → Spans p s m x → mean (Bits p.read (capped_bits p.o) (capped_bits p.l)) s m ≡ Some x
bits_mean s m x p range h =
    let co = capped-is p.o (omega (arith, range.0, range.1)) in
    let cl = capped-is p.l (omega (arith, range.1)) in
    mean-Bits p.read (capped_bits p.o) (capped_bits p.l) s m ∙ ap (λ v. where_some v (λ k. Some (take_of k (capped_bits p.o) (capped_bits p.l)))) h.is_word
    ∙ ap (λ k. Some (take_of h.word k (capped_bits p.l))) co ∙ ap (λ k. Some (take_of h.word p.o k)) cl ∙ ap Some (sym h.are_bits)

pub bits_read : (p : Span) → ReadsRange p (Bits p.read (capped_bits p.o) (capped_bits p.l))
bits_read p = record {
  fit = λ k f range. bits_fit k p f range;
  means = λ s m x range h. bits_mean s m x p range h;
  origin = λ x e. absurd cc;
}

-- a range that is all bits of a word is the word
pub all_read : (p : Span) → is_all p.width p.o p.l ≡ true → ReadsRange p p.read
all_read p is = let all = all_is p.width p.o p.l is in record {
  fit = λ k f range. f;
  means = λ s m x range h.
      let small : h.word < 2 ^ p.l = subst (λ o. FitsWidth o h.word) all.1 h.small in
      let same : x ≡ h.word = h.are_bits ∙ ap (λ o. take_of h.word o p.l) all.0 ∙ take_whole h.word p.l small in
      h.is_word ∙ ap Some (sym same);
  origin = λ x e. (p.l, all.1, e);
}

some_of : (o : Option ℕ) (go : ℕ → Option ℕ) (x : ℕ) → where_some o go ≡ Some x → (w : ℕ) × (o ≡ Some w) × (go w ≡ Some x)
some_of None go x e = absurd cc
some_of (Some w) go x e = (w, refl, e)

-- a range of a range is one of the word
pub narrower : (p : Span) (r : Read) (from count : ℕ) → p.read ≡ Bits r from count → p.o + p.l ≤ count → from + count ≤ 64
    → let q : Span = record { read = r; width = None; o = from + p.o; l = p.l } in IsSameRange p q
narrower p r from count is inside short = record {
  long = refl;
  range = λ range. (range.0, omega (arith, inside, short));
  fit = λ k f. (and_parts (fits k r) (is_range from count) (sym (fits-Bits k r from count) ∙ ap (fits k) (sym is) ∙ f)).0;
  means = λ s m x h.
      let g = some_of (mean r s m) (λ w. Some (take_of w from count)) h.word (sym (mean-Bits r from count s m) ∙ ap (λ (y : Read). mean y s m) (sym is) ∙ h.is_word) in
      let part : take_of g.0 from count ≡ h.word = same_Some (take_of g.0 from count) h.word g.2 in
      record {
        word = g.0;
        is_word = g.1;
        small = tt;
        are_bits = h.are_bits ∙ ap (λ w. take_of w p.o p.l) (sym part) ∙ take_take g.0 from count p.o p.l inside;
      };
  origin = λ w x some slot. absurd cc;
}

-- Fetching

small_at : (widths ws : List ℕ) (j : ℕ) → AreSmall widths ws → (o : Option ℕ) → slice_get widths j ≡ o → (w : ℕ) → slice_get ws j ≡ Some w → FitsWidth o w
small_at widths ws j small None is w e = tt
small_at widths ws j small (Some width) is w e = small j width w is e

-- code that makes what stands at a location fetches it
pub fetches_at : (words : List Read) (widths : List ℕ) (loc : Loc) (old new : Sheet) (slot : ℕ) (span : Span) (read : Read) → SpansLoc words (slice_get widths loc.word) loc span → ReadsRange span read
    → MakesRead read old new slot → FetchesAt words widths loc old new slot
fetches_at words widths loc old new slot span read at reads makes plan k le all lt h =
    let width = slice_get widths loc.word in
    let range = loc_range words width loc span at h in
    let made = makes plan k le (reads.fit k (loc_fits words width loc span at h k all lt) range) in
    record {
      adds = made.adds;
      given = made.given;
      runs = λ ws x small.
          straight_weaken plan old.slots old new (λ s m. IsGood m × (mean read s m ≡ Some x)) (λ s m. IsGood m × AreMeant words s m ws × IsReadAt loc ws m x) (λ s m. slice_index s slot ≡ x) (λ s m. slice_index s slot ≡ x)
          (λ s m pre. (pre.0, reads.means s m x range (loc_means s m pre.0 x words ws width loc span at h pre.1 (λ w e. small_at widths ws loc.word small width refl w e) pre.2))) (λ s m y. y) (made.runs x);
    }

-- from words in slots
pub fetches_loc : (words : List ℕ) (loc : Loc) (old new : Sheet) (slot : ℕ) → FetchesAt (map (λ x. Slot x) words) [] loc old new slot → FetchesLoc words loc old new slot
fetches_loc words loc old new slot fetches plan all lt h =
    let n = length-map words (λ x. Slot x) in
    let made = fetches plan old.slots (omega arith) (slots_fit old.slots words all) (omega (arith, lt, n)) h in
    record {
      adds = made.adds;
      given = made.given;
      runs = λ x. record {
        adds = made.adds;
        low = omega arith;
        runs = λ final callee next law agrees s w long pre. (made.runs (slots_at s words) x (λ j width k at. absurd cc)).runs final callee next law agrees s w long (pre.0, slots_meant s w.memory words, pre.1);
      };
    }
