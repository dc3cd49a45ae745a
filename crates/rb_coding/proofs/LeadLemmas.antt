-- The tests on the way to the leaf of a value pass, and what they read is loaded by widths of block words.
use Rattle.std.proofs.Common.{◌≡◌, ℕ, zero, suc, List, [], ◌∷◌, false, Option, Some, None, refl, sym, subst, ap, ◌∙◌}
use Rattle.std.specs.Prelude.{slice_get}
use Rattle.std.proofs.lemmas.Option.{same_Some}
use Rattle.rb_core.specs.declared.value.Value.{Value}
use Rattle.rb_core.specs.declared.program.Program.{Program}
use Rattle.rb_core.specs.declared.layout_decl.Loc.{Loc}
use Rattle.rb_core.specs.declared.layout_decl.Step.{Step}
use Rattle.rb_core.specs.TypedPrograms.{IsTyped}
use Rattle.rb_bits.specs.Words.{take_of}
use Rattle.rb_bytes.specs.Memory.{Memory, IsGood, IsWidth}
use Rattle.rb_layout.specs.declared.layout.Block.{Block}
use Rattle.rb_layout.specs.declared.layout.FlatWord.{FlatWord}
use Rattle.rb_layout.specs.declared.layout.Leaf.{Leaf}
use Rattle.rb_layout.specs.declared.layout.WordRef.{WordRef}
use Rattle.rb_layout.specs.A4.{IsBlockWidth}
use Rattle.rb_layout.specs.A7.{MeetsTest}
use Rattle.rb_layout.specs.Agreement.{Agrees}
use Rattle.rb_layout.specs.Excluded.{Excludes}
use Rattle.rb_layout.specs.Flat.{IsFlat}
use Rattle.rb_layout.specs.Flattening.{flat_layouts}
use Rattle.rb_layout.specs.Locations.{Reached, reached_at, known_in, next_ref, ref_in, pointer_block, word_beginning, resolve_from}
use Rattle.rb_layout.specs.Splits.{Test, Is, IsNone}
use Rattle.rb_layout.specs.Words.{words_in, words_of_block, flat_at}
use Rattle.rb_rel.specs.Reading.{read_loc}
use Rattle.rb_rel.proofs.Agreeing.{lawful}
use Rattle.rb_rel.proofs.Barred.{never, no_null}
use Rattle.rb_rel.proofs.Known.{constant_bits-is}
use Rattle.rb_rel.proofs.Reading.{word_beginning-is, reads_loc}
use Rattle.rb_rel.proofs.Represented.{Opened}
use Rattle.rb_coding.specs.inner.Leading.{Passes, RouteLeads}

module _ (leaf : Leaf) (wide : (b : ℕ) (block : Block) (j : ℕ) (f : FlatWord) → slice_get leaf.blocks b ≡ Some block → slice_get block.words j ≡ Some f → IsBlockWidth f.width) where
  in_block : (b : ℕ) (o : Option Block) (j : ℕ) (f : FlatWord) → slice_get leaf.blocks b ≡ o → slice_get (words_of_block o) j ≡ Some f → IsWidth f.width
  in_block b None j f is e = absurd cc
  in_block b (Some block) j f is e = wide b block j f is e

  abbrev AreWide : List Step → Type 0
  AreWide steps = (k : ℕ) (s : Step) → slice_get steps k ≡ Some s → IsWidth s.width

  by_word : (b : ℕ) (s : Step) (steps : List Step) (x : Reached) → ((r : WordRef) → resolve_from leaf (Some r) s.o s.l steps ≡ Some x → AreWide steps)
      → (j : Option ℕ) → word_beginning (words_in leaf (Some b)) 0 s.byte s.width 0 ≡ j → resolve_from leaf (ref_in b j) s.o s.l steps ≡ Some x → AreWide (s ∷ steps)
  by_word b s steps x rest None is e = λ k u h. absurd (none_left steps e)
    where
      none_left : (ss : List Step) → resolve_from leaf None s.o s.l ss ≡ Some x → ⊥
      none_left ss h = cc
  by_word b s steps x rest (Some j) is e = go
    where
      go : AreWide (s ∷ steps)
      go zero u h =
          let g = word_beginning-is (words_in leaf (Some b)) 0 s.byte s.width 0 j is in
          let w = in_block b (slice_get leaf.blocks b) g.number g.word refl g.is_word in
          subst (λ (y : Step). IsWidth y.width) (same_Some s u h) (subst IsWidth g.is_width w)
      go (suc k) u h = rest (record { block = Some b; word = j }) e k u h

  by_block : (s : Step) (steps : List Step) (x : Reached) → ((r : WordRef) → resolve_from leaf (Some r) s.o s.l steps ≡ Some x → AreWide steps)
      → (b : Option ℕ) → resolve_from leaf (next_ref leaf b s) s.o s.l steps ≡ Some x → AreWide (s ∷ steps)
  by_block s steps x rest None e = λ k u h. absurd (none_left steps e)
    where
      none_left : (ss : List Step) → resolve_from leaf None s.o s.l ss ≡ Some x → ⊥
      none_left ss h = cc
  by_block s steps x rest (Some b) e = by_word b s steps x rest (word_beginning (words_in leaf (Some b)) 0 s.byte s.width 0) refl e

  widths_from : (steps : List Step) (r : WordRef) (o l : ℕ) (x : Reached) → resolve_from leaf (Some r) o l steps ≡ Some x → AreWide steps
  widths_from [] r o l x e = λ k s h. absurd cc
  widths_from (s ∷ steps) r o l x e = by_block s steps x (λ q h. widths_from steps q s.o s.l x h) (pointer_block (flat_at leaf r) o l s.align) e

  pub widths : (loc : Loc) (x : Reached) → reached_at leaf loc ≡ Some x → (k : ℕ) (s : Step) → slice_get loc.steps k ≡ Some s → IsWidth s.width
  widths loc x e = widths_from loc.steps (record { block = None; word = loc.word }) loc.o loc.l x e

module _ (p : Program) (typed : IsTyped p) (agrees : Agrees p) (m : Memory) (good : IsGood m) (t : ℕ) (v : Value) (ws : List ℕ) (o : Opened p.types (flat_layouts p) m false t v ws) where
  abbrev leaf : Leaf
  leaf = o.made.leaf

  is_flat : IsFlat leaf
  is_flat = (lawful p agrees typed).flat t o.made.layout o.made.number leaf o.made.is_layout o.made.is_number

  wide : (b : ℕ) (block : Block) (j : ℕ) (f : FlatWord) → slice_get leaf.blocks b ≡ Some block → slice_get block.words j ≡ Some f → IsBlockWidth f.width
  wide = (agrees.a4 t o.made.layout o.made.number leaf o.made.is_layout o.made.is_number).widths

  known_is : (loc : Loc) (c : ℕ) (x : Option Reached) → reached_at leaf loc ≡ x → known_in x ≡ Some c → read_loc ws m loc ≡ Some c
  known_is loc c None is e = absurd cc
  known_is loc c (Some x) is e =
      let r = reads_loc leaf ws m false o.made.subs o.made.ats o.made.placed loc x is in
      r.is_read ∙ ap Some (constant_bits-is o.made.subs o.made.ats r.found x.word.parts x.l x.o c r.stands.holds.parts e)

  excluded_is : (loc : Loc) (c : ℕ) → Excludes p.types (flat_layouts p) leaf loc c → read_loc ws m loc ≡ Some c → ⊥
  excluded_is loc c x e =
      let r = reads_loc leaf ws m false o.made.subs o.made.ats o.made.placed loc x.reached x.resolves in
      never p.types (flat_layouts p) m false good (lawful p agrees typed).flat x.bars o.made.at o.made.subs o.made.ats r.found r.stands.holds.parts o.below
      (no_null p.types (flat_layouts p) m false good leaf ws o.made.subs o.made.ats is_flat o.made.placed x.reached.ref x.reached.word r.stands.is_flat)
      (same_Some _ _ (sym r.is_read ∙ e))

  passes : (test : Test) → MeetsTest p.types (flat_layouts p) leaf test → Passes ws m test
  passes (Is loc c) h = record { is_read = known_is loc c (reached_at leaf loc) refl h.1; widths = widths leaf wide loc h.0.0 h.0.1 }
  passes (IsNone loc cs) h =
      let r = reads_loc leaf ws m false o.made.subs o.made.ats o.made.placed loc h.0.0 h.0.1 in
      let n = take_of r.found h.0.0.o h.0.0.l in
      (n, record { is_read = r.is_read; widths = widths leaf wide loc h.0.0 h.0.1 }, λ one. excluded_is loc n (h.1 n one) r.is_read)

  -- the splits lead to the leaf of the value
  pub leads_to : RouteLeads ws m o.made.layout.tree o.made.number
  leads_to =
      let d = o.made in
      let law = lawful p agrees typed in
      let k = law.reached t d.layout d.number d.leaf d.is_layout d.is_number in
      record {
        distinct = λ i s is. (law.split t d.layout d.is_layout i s is).distinct;
        number = k.0;
        route = k.1;
        is_route = k.2;
        is_leaf = k.3;
        passes = λ i test is. passes test (law.met t d.layout d.number d.leaf d.is_layout d.is_number test (record { route_number = k.0; route = k.1; number = i; is_route = k.2; leads = k.3; is_test = is }));
      }
