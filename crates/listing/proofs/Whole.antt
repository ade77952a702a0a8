-- The pieces are the whole listing: the first line, the entries' lines in blocks until no entry is left, and the last line are what 01 has the program print.
-- Why: a block of n lines and then one of k are one of n + k, and the lines follow the entries one by one, as reading does.
use Rattle.std.proofs.Common.{◌≡◌, ℕ, zero, suc, ◌+◌, ◌%◌, ◌^◌, ◌<◌, ◌≤◌, Bool, true, false, List, [], ◌++◌, length, sym, refl, ap, ◌∙◌, ap₂, append_assoc, append-nil, arith, length-take}
use Rattle.refusal.specs.declared.Refusal.{Refusal}
use Rattle.entry.specs.declared.Entry.{Entry}
use Rattle.schedule.specs.Read.{set_up_of, entry_at, EntryReading, SetUpReading, an_entry}
use Rattle.schedule.specs.Schedule.{Entries, go_on, entries_up_to, entries_from}
use Rattle.schedule.proofs.Within.{entry_within}
use Rattle.schedule.proofs.Endings.{bound_not_met}
use Rattle.machine.specs.State.{fresh_machine}
use Rattle.line.specs.Text.{set_up_text}
use Rattle.listing.specs.declared.Listing.{Listing}
use Rattle.listing.specs.Listing.{entry_lines, after_set_up, counted, listing}
use Rattle.listing.specs.Pieces.{Piece, opened, opened_by, beginning, first_line, last_line, stopped, by_reading, entered, next_line, before, lines}
use Rattle.listing.proofs.Blocks.{no_more_lines}
use Rattle.std.specs.Prelude.{Err, None, Ok, Some}

together : (p q r : Piece) → before p (before q r) ≡ before (before p q) r
together p q r = ap (λ (t : List ℕ). record { text = t; after = r.after }) (sym (append_assoc p.text q.text r.text))

-- whether entries go on
pub either_way : {P : Type 0} (g : Bool) → (g ≡ true → P) → (g ≡ false → P) → P
either_way true f h = f refl
either_way false f h = h refl

one_more : (n : ℕ) (s : List ℕ) (l : Listing) → l.going ≡ true → lines (suc n) s l ≡ before (next_line s l) (lines n s (next_line s l).after)
unfolding lines
one_more n s l e = rw e

-- a block of n lines, then one of k
pub block_then_block : (n k : ℕ) (s : List ℕ) (l : Listing) → lines (n + k) s l ≡ before (lines n s l) (lines k s (lines n s l).after)
unfolding lines
block_then_block zero k s l = let none : 0 + k ≡ k = omega arith in ap (λ (i : ℕ). lines i s l) none
block_then_block (suc n) k s l =
    let one : suc n + k ≡ suc (n + k) = omega arith in
    let line = next_line s l in
    let silent : Piece = record { text = []; after = l } in
    let behind : Piece → Piece = λ p. before p (lines k s p.after) in
    ap (λ (i : ℕ). lines i s l) one
    ∙ either_way l.going
    (λ e. one_more (n + k) s l e ∙ ap (before line) (block_then_block n k s line.after)
    ∙ together line (lines n s line.after) (lines k s (lines n s line.after).after) ∙ sym (ap behind (one_more n s l e)))
    (λ e. no_more_lines (suc (n + k)) s l e ∙ sym (ap behind (no_more_lines (suc n) s l e) ∙ ap (before silent) (no_more_lines k s l e)))

-- the next line and what follows it, by what is read
by_reading_lem : (n : ℕ) (s : List ℕ) (l : Listing) (x : EntryReading) → l.going ≡ true → entry_at s l.from ≡ x
    → lines (suc n) s l ≡ before (by_reading x l) (lines n s (by_reading x l).after)
unfolding next_line
by_reading_lem n s l x g e = one_more n s l g ∙ ap (λ (y : EntryReading). before (by_reading y l) (lines n s (by_reading y l).after)) e

stays_stopped : (n : ℕ) (s : List ℕ) (l : Listing) → l.going ≡ false → (lines n s l).after.going ≡ false
stays_stopped n s l e = ap (λ (p : Piece). p.after.going) (no_more_lines n s l e) ∙ e

-- told to the end, if it is so behind an entry that is read
ended_behind : (n : ℕ) (s : List ℕ) (l : Listing)
    → ((e : Entry) (k : ℕ) → (0 < k) × (l.from + k ≤ length s) → (lines n s (entered l e k).after).after.going ≡ false)
    → (lines (suc n) s l).after.going ≡ false
ended_behind n s l rest =
    either_way l.going
    (λ g. ap (λ (p : Piece). p.after.going) (by_reading_lem n s l (entry_at s l.from) g refl) ∙ last (entry_at s l.from) refl)
    (stays_stopped (suc n) s l)
  where
    last : (x : EntryReading) → entry_at s l.from ≡ x → (lines n s (by_reading x l).after).after.going ≡ false
    last None q = stays_stopped n s (stopped l) refl
    last (Some (Err f)) q = stays_stopped n s (stopped l) refl
    last (Some (Ok read)) q = rest read.entry read.count (entry_within s l.from read.entry read.count q)

-- every entry takes a byte at least, so one line more than there are bytes left tells them all
pub enough_lines : (n : ℕ) (s : List ℕ) (l : Listing) → length s ≤ n + l.from → (lines (suc n) s l).after.going ≡ false
enough_lines zero s l h = ended_behind 0 s l (λ e k w. absurd (omega (arith, w.0, w.1)))
enough_lines (suc n) s l h = ended_behind (suc n) s l (λ e k w. enough_lines n s (entered l e k).after (omega (arith, w.0, w.1)))

-- a piece and the last line behind it
closed : Piece → List ℕ
closed p = p.text ++ last_line p.after

-- what 01 has the program print for the entries from where a listing stands
told_from : List ℕ → Listing → List ℕ
told_from s l = entry_lines l.machine l.place (entries_from s l.from).entries (entries_from s l.from).ending

-- no further entry: the last line follows
none_left : (n : ℕ) (s : List ℕ) (p : Piece) → p.after.going ≡ false → closed (before p (lines n s p.after)) ≡ closed p
unfolding closed
none_left n s p e = rw (no_more_lines n s p.after e) (ap (λ (t : List ℕ). t ++ last_line p.after) (append-nil p.text))

both_ways : {g : Bool} → g ≡ true → g ≡ false → ⊥
both_ways t f = let z : ◌≡◌ {A = ℕ} 0 1 = cc in omega arith

module _ (s : List ℕ) (short : length s < 2 ^ 32) where
  -- the entries from a place on, by what is read there
  entries_by : (from : ℕ) (x : EntryReading) → entry_at s from ≡ x → entries_from s from ≡ go_on x (λ n. entries_up_to (length s) s (from + n))
  unfolding entries_up_to
  entries_by from x e = ap (λ (y : EntryReading). go_on y (λ n. entries_up_to (length s) s (from + n))) e

  told_by : (l : Listing) (es : Entries) → List ℕ
  told_by l es = entry_lines l.machine l.place es.entries es.ending

  -- an entry's line, and the lines behind it
  entry_told : (n : ℕ) (l : Listing) (e : Entry) (k : ℕ) → l.place ≤ l.from → (0 < k) × (l.from + k ≤ length s)
      → closed (lines n s (entered l e k).after) ≡ told_from s (entered l e k).after
      → closed (before (entered l e k) (lines n s (entered l e k).after)) ≡ told_by l (go_on (an_entry e k) (λ i. entries_up_to (length s) s (l.from + i)))
  unfolding closed told_from told_by entry_lines
  entry_told n l e k p w h =
      let next = (entered l e k).after in
      let place : (l.place + 1) % 2 ^ 32 ≡ l.place + 1 = omega (arith, w.0, w.1) in
      let bound = bound_not_met (length s) s (l.from + k) (omega (arith, w.0)) in
      append_assoc (entered l e k).text (lines n s next).text (last_line (lines n s next).after)
      ∙ ap (λ (t : List ℕ). (entered l e k).text ++ t)
      (h ∙ ap₂ (λ (i : ℕ) (es : Entries). entry_lines next.machine i es.entries es.ending) place (sym bound))

  -- by what is read: the end, a refusal, or an entry
  told_step : (n : ℕ) (l : Listing) (x : EntryReading) → entry_at s l.from ≡ x → l.place ≤ l.from → (lines n s (by_reading x l).after).after.going ≡ false
      → ((k : Listing) → k.going ≡ true → k.place ≤ k.from → (lines n s k).after.going ≡ false → closed (lines n s k) ≡ told_from s k)
      → closed (before (by_reading x l) (lines n s (by_reading x l).after)) ≡ told_by l (go_on x (λ i. entries_up_to (length s) s (l.from + i)))
  unfolding closed told_by entry_lines
  told_step n l None q p e rest = none_left n s (by_reading None l) refl
  told_step n l (Some (Err r)) q p e rest = none_left n s (by_reading (Some (Err r)) l) refl
  told_step n l (Some (Ok read)) q p e rest =
      let x = read.entry in
      let k = read.count in
      let w = entry_within s l.from x k q in
      entry_told n l x k p w (rest (entered l x k).after refl (omega (arith, w.0, w.1)) e)

  -- the lines until no entry is left, and the last line, are those that 01 has for the entries from there on
  lines_are_entries : (n : ℕ) (l : Listing) → l.going ≡ true → l.place ≤ l.from → (lines n s l).after.going ≡ false → closed (lines n s l) ≡ told_from s l
  unfolding lines told_from told_by
  lines_are_entries zero l g p e = absurd (both_ways g e)
  lines_are_entries (suc n) l g p e =
      let x = entry_at s l.from in
      let read = by_reading_lem n s l x g refl in
      ap closed read ∙ told_step n l x refl p (sym (ap (λ (p : Piece). p.after.going) read) ∙ e) (lines_are_entries n)
      ∙ sym (ap (told_by l) (entries_by l.from x refl))

  -- from the set-up on
  whole : (n : ℕ) (x : SetUpReading) (l : Listing) → opened_by x ≡ Ok l → (lines n s l).after.going ≡ false
      → first_line (opened_by x) ++ closed (lines n s l) ≡ after_set_up s x
  unfolding told_from
  whole n (Err r) l a e = absurd (let z : ◌≡◌ {A = ℕ} 0 1 = cc in omega arith)
  whole n (Ok up) l a e =
      let begin = beginning (fresh_machine up.threads up.nodes) up.next in
      let same : begin ≡ l = cc in
      ap (λ (t : List ℕ). set_up_text up.threads up.nodes ++ t)
      (ap (λ (k : Listing). closed (lines n s k)) (sym same)
      ∙ lines_are_entries n begin refl (omega arith) (ap (λ (k : Listing). (lines n s k).after.going) same ∙ e))

refused_whole : (s : List ℕ) (r : Refusal) (x : SetUpReading) → opened_by x ≡ Err r → first_line (opened_by x) ≡ after_set_up s x
refused_whole s r (Err q) a = refl
refused_whole s r (Ok up) a = absurd (let z : ◌≡◌ {A = ℕ} 0 1 = cc in omega arith)

-- the first line, the entries' lines in blocks until no entry is left, and the last line
pub pieces_are_the_listing : (s : List ℕ) (n : ℕ) (l : Listing) → opened s ≡ Ok l → (lines n (counted s) l).after.going ≡ false
    → first_line (opened s) ++ ((lines n (counted s) l).text ++ last_line (lines n (counted s) l).after) ≡ listing s
unfolding listing closed
pieces_are_the_listing s n l a e = whole (counted s) (omega (arith, length-take 65536 s)) n (set_up_of (counted s)) l a e

-- a refusal at set-up prints only its line
pub refused_set_up_is_the_listing : (s : List ℕ) (r : Refusal) → opened s ≡ Err r → first_line (opened s) ≡ listing s
unfolding listing
refused_set_up_is_the_listing s r a = refused_whole (counted s) r (set_up_of (counted s)) a
