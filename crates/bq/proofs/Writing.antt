-- What is written so far: so many blocks of 1,024 lines. They come to an end, since an entry takes a byte at least; and then the last line follows.
use Rattle.std.proofs.Common.{◌≡◌, ℕ, zero, suc, Bool, ◌+◌, ◌-◌, ◌*◌, ◌/◌, ◌≤◌, true, false, List, length, take, refl, sym, ap, ◌∙◌, subst, arith}
use lib.ListN.{length-append, length-take, replicate}
use Rattle.std.specs.Prelude.{Option, OnOk, Result, Ok, Err}
use Rattle.std.specs.Io.KnownBytes.{Appends}
use Rattle.std.proofs.KnownBytes.{Appends-nil, Appends-trans}
use Rattle.refusal.specs.declared.Refusal.{Refusal}
use Rattle.lent.specs.Lent.{Writing, writing, written}
use Rattle.lent.proofs.Laws.{writing_fits, accepted_changes_only_these}
use Rattle.machine.specs.declared.Machine.{Machine}
use Rattle.contents.specs.Contents.{contents}
use Rattle.line.specs.declared.Line.{Line}
use Rattle.line.specs.Line.{line_of}
use Rattle.line.specs.Text.{first_text, queue_text}
use Rattle.line.proofs.Lengths.{first_few, queue_few}
use Rattle.line.proofs.Lines.{first_line_holds_its_text, line_counts_its_text}
use Rattle.line.proofs.Items.{contents_few}
use Rattle.listing.specs.declared.Listing.{Listing}
use Rattle.listing.specs.Listing.{counted, listing}
use Rattle.listing.specs.Pieces.{Piece, opened, first_line, next_line, lines, last_line}
use Rattle.listing.proofs.Telling.{next_line_few}
use Rattle.listing.proofs.Blocks.{no_more_lines, one_line_more}
use Rattle.listing.proofs.Whole.{either_way, block_then_block, enough_lines, pieces_are_the_listing, refused_set_up_is_the_listing}
use Rattle.bq.specs.Told.{TellsAll}

pub on_ok : {T E : Type 0} {P Q : Type 0} → (r : Result T E) → (P → Q) → OnOk r P → OnOk r Q
on_ok (Ok x) h p = h p
on_ok (Err e) h p = p

-- the line of what the queue holds has room in 8,192 bytes
queue_fits : (m : Machine) → length (queue_text (contents m)) ≤ 8192
queue_fits m = omega (arith, queue_few (contents m), contents_few m)

pub queue_not_refused : (m : Machine) {A : Type 0} {found : Writing} {r : Refusal} → found ≡ writing (queue_text (contents m)) (replicate 8192 0) → found ≡ Err r → A
queue_not_refused m {A} e f = absurd (let z : ◌≡◌ {A = ℕ} 0 1 = cc (writing_fits (queue_text (contents m)) (replicate 8192 0) (queue_fits m)) in omega arith)

-- the first line, up to its count, is its text
pub first_held : (made : Result Machine Refusal) {line : Line} → line ≡ line_of (first_text made) → (take line.count line.bytes ≡ first_text made) × (line.count ≤ 64)
first_held made e = rw e ((first_line_holds_its_text made).0, omega (arith, line_counts_its_text (first_text made), first_few made))

no_line : (s : List ℕ) (l : Listing) → length (lines 0 s l).text ≤ 64 * 0
unfolding lines
no_line s l = omega arith

-- a block of n lines has room in 64 bytes for each
pub lines_few : (n : ℕ) (s : List ℕ) (l : Listing) → length (lines n s l).text ≤ 64 * n
lines_few zero s l = no_line s l
lines_few (suc n) s l =
    either_way l.going
    (λ g.
    let rest : ℕ → List ℕ = λ k. (lines k s (next_line s l).after).text in
    let one : suc n - 1 ≡ n = omega arith in
    omega (
      arith,
      ap (λ (p : Piece). length p.text) (one_line_more (suc n) s l (omega arith) g),
      length-append (next_line s l).text (rest (suc n - 1)),
      ap (λ (k : ℕ). length (rest k)) one,
      next_line_few s l,
      lines_few n s (next_line s l).after,
    ))
    (λ g. omega (arith, ap (λ (p : Piece). length p.text) (no_more_lines (suc n) s l g)))

-- k blocks from the listing `from` on led to the listing l, and to what the writer holds
pub record Blocks (s : List ℕ) (from : Listing) (k : ℕ) (l : Listing) (held holds : Option (List ℕ)) : Type 0 where
  pub after : l ≡ (lines (1024 * k) s from).after
  pub text : Appends held holds (lines (1024 * k) s from).text

pub none_yet : (s : List ℕ) (from : Listing) (held : Option (List ℕ)) → Blocks s from 0 from held held
unfolding lines
none_yet s from held = record { after = refl; text = Appends-nil held }

module _ {s : List ℕ} {from l : Listing} {k : ℕ} {held mid : Option (List ℕ)} (b : Blocks s from k l held mid) (holds : Option (List ℕ)) where
  pub one_block_more : {m : Listing} → m ≡ (lines 1024 s l).after → Appends mid holds (lines 1024 s l).text → Blocks s from (k + 1) m held holds
  one_block_more {m} e t =
      let n : 1024 * (k + 1) ≡ 1024 * k + 1024 = omega arith in
      let whole = ap (λ (i : ℕ). lines i s from) n ∙ block_then_block (1024 * k) 1024 s from in
      let here = ap (λ (x : Listing). lines 1024 s x) b.after in
      record {
        after = e ∙ ap (λ (p : Piece). p.after) here ∙ sym (ap (λ (p : Piece). p.after) whole);
        text =
            subst (Appends held holds) (sym (ap (λ (p : Piece). p.text) whole))
            (Appends-trans held mid holds _ _ b.text (subst (Appends mid holds) (ap (λ (p : Piece). p.text) here) t));
      }

  pub all_told : l.going ≡ false → Appends mid holds (last_line l) → TellsAll s from held holds
  all_told g t = (
    1024 * k,
    sym (ap (λ (x : Listing). x.going) b.after) ∙ g,
    Appends-trans held mid holds _ _ b.text (subst (Appends mid holds) (ap last_line b.after) t),
  )

-- 65,536 blocks are more than there are entries
pub enough_blocks : {s : List ℕ} {from l : Listing} {k : ℕ} {held holds : Option (List ℕ)} → length s ≤ 65536 → 65536 ≤ k → Blocks s from k l held holds → l.going ≡ false
enough_blocks {s} {from} {k = k} few many b =
    let n : 1024 * k ≡ suc (1024 * k - 1) = omega (arith, many) in
    ap (λ (x : Listing). x.going) b.after ∙ ap (λ (i : ℕ). (lines i s from).after.going) n ∙ enough_lines (1024 * k - 1) s from (omega (arith, few, many))

-- a refusal at set-up prints only its line
pub refused_told : (s : List ℕ) {r : Refusal} (held holds : Option (List ℕ)) → opened s ≡ Err r → Appends held holds (first_text (Err r)) → Appends held holds (listing s)
refused_told s {r} held holds is put = subst (Appends held holds) (sym (ap first_line is) ∙ refused_set_up_is_the_listing s r is) put

-- else the entries follow
pub accepted_told : (s : List ℕ) {l : Listing} (held mid holds : Option (List ℕ)) → opened s ≡ Ok l → Appends held mid (first_text (Ok l.machine))
    → TellsAll (counted s) l mid holds → Appends held holds (listing s)
accepted_told s {l} held mid holds is put t =
    let begun : Appends held mid (first_line (opened s)) = subst (Appends held mid) (sym (ap first_line is)) put in
    subst (Appends held holds) (pieces_are_the_listing s t.0 l is t.1) (Appends-trans held mid holds _ _ begun t.2)

-- a block of 65,536 bytes holds its lines up to their count
pub block_held : (s : List ℕ) (l : Listing) (block : List ℕ) {count : ℕ} {after : List ℕ} → length block ≡ 65536
    → count ≡ length (lines (length block / 64) s l).text → after ≡ written (lines (length block / 64) s l).text block
    → (count ≤ length after) × (count ≡ length (take count after)) × (take count after ≡ (lines 1024 s l).text)
block_held s l block {count} {after} e f g =
    let many : length block / 64 ≡ 1024 = omega (arith, e) in
    let text = (lines 1024 s l).text in
    let counts : count ≡ length text = f ∙ ap (λ (n : ℕ). length (lines n s l).text) many in
    let puts : after ≡ written text block = g ∙ ap (λ (n : ℕ). written (lines n s l).text block) many in
    let fits : length text ≤ length block = omega (arith, lines_few 1024 s l, e) in
    let taken : take count after ≡ text =
    ap (λ (k : ℕ). take k after) counts ∙ ap (take (length text)) puts ∙ (accepted_changes_only_these text block (length text) (writing_fits text block fits)).0 in (
      omega (arith, length-take count after, ap length taken, counts),
      counts ∙ sym (ap length taken),
      taken,
    )

-- and the listing is told up to behind them
pub block_told : (s : List ℕ) (l : Listing) (block : List ℕ) {u : Listing} → length block ≡ 65536 → u ≡ (lines (length block / 64) s l).after → u ≡ (lines 1024 s l).after
block_told s l block e f = let many : length block / 64 ≡ 1024 = omega (arith, e) in f ∙ ap (λ (n : ℕ). (lines n s l).after) many
