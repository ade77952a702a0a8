-- A block of lines, one after the other: what the loop that fills a buffer has told so far and what is still to come are the whole block.
use Rattle.std.proofs.Common.{◌≡◌, ℕ, zero, suc, ◌+◌, ◌-◌, ◌*◌, ◌/◌, ◌<◌, ◌≤◌, true, false, List, [], ◌++◌, length, take, drop, sym, refl, ap, ◌∙◌, subst, ap₂, append_assoc, append-nil, arith, take-append-drop, length-take-le, drop-drop}
use Rattle.lent.specs.Lent.{written_at, written}
use Rattle.lent.proofs.Laws.{written_fits, length-written_at, taken_of_written_at, left_of_written_at}
use Rattle.listing.specs.declared.Listing.{Listing}
use Rattle.line.specs.declared.Line.{Line}
use Rattle.line.specs.Line.{line_of}
use Rattle.listing.specs.Pieces.{Piece, next_line, lines}
use Rattle.listing.proofs.Telling.{next_line_few, next_counts, next_put}

-- the laws of `lines`
pub no_more_lines : (n : ℕ) (s : List ℕ) (l : Listing) → l.going ≡ false → lines n s l ≡ record { text = []; after = l }
unfolding lines
no_more_lines zero s l e = refl
no_more_lines (suc n) s l e = rw e

pub one_line_more : (n : ℕ) (s : List ℕ) (l : Listing) → 0 < n → l.going ≡ true
    → lines n s l ≡ record { text = (next_line s l).text ++ (lines (n - 1) s (next_line s l).after).text; after = (lines (n - 1) s (next_line s l).after).after }
unfolding lines
one_line_more zero s l h e = absurd (omega arith)
one_line_more (suc n) s l h e = let one : suc n - 1 ≡ n = omega arith in rw (e, one)

-- a block of n lines from the listing `from` on is told up to the listing l and the place `at` of the buffer, and `left` lines may still come
pub record Telling (n : ℕ) (s : List ℕ) (from : Listing) (out₀ out : List ℕ) (l : Listing) (at left : ℕ) : Type 0 where
  pub text : (lines n s from).text ≡ take at out ++ (lines left s l).text
  pub after : (lines n s from).after ≡ (lines left s l).after
  pub room : at + 64 * left ≤ length out
  pub behind : drop at out ≡ drop at out₀
  pub length_kept : length out ≡ length out₀

module _ {n : ℕ} {s : List ℕ} {from : Listing} {out₀ out : List ℕ} {l : Listing} {at left : ℕ} (t : Telling n s from out₀ out l at left) where
  -- the next line
  line_told : {last : List ℕ} → 0 < left → l.going ≡ true → last ≡ written_at at (next_line s l).text out
      → Telling n s from out₀ last (next_line s l).after (at + length (next_line s l).text) (left - 1)
  line_told {last} h g put =
      let line = (next_line s l).text in
      let rest = lines (left - 1) s (next_line s l).after in
      let more = one_line_more left s l h g in
      let few = next_line_few s l in
      let fits : at + length line ≤ length out = omega (arith, few, t.room) in
      let here : at + length line + 0 ≡ at + length line = omega arith in
      let kept = ap length put ∙ length-written_at at line out fits in
      record {
        text =
            t.text ∙ ap (λ (p : Piece). take at out ++ p.text) more ∙ sym (append_assoc (take at out) line rest.text)
            ∙ ap (λ (x : List ℕ). x ++ rest.text) (sym (ap (take (at + length line)) put ∙ taken_of_written_at at line out fits));
        after = t.after ∙ ap (λ (p : Piece). p.after) more;
        room = omega (arith, few, t.room, kept);
        behind =
            ap (drop (at + length line)) put ∙ rw here at (left_of_written_at at line out fits 0)
            ∙ sym (drop-drop (length line) at out) ∙ ap (drop (length line)) t.behind ∙ drop-drop (length line) at out₀;
        length_kept = kept ∙ t.length_kept;
      }

  pub goes_on : {u : Listing} {line : Line} {last : List ℕ} {rest : ℕ} → left ≡ suc rest → l.going ≡ true
      → line ≡ line_of (next_line s l).text → u ≡ (next_line s l).after → last ≡ written_at at (take line.count line.bytes) out
      → Telling n s from out₀ last u (at + line.count) rest
  goes_on {u} {line} {last} {rest} h g e f put =
      let one : left - 1 ≡ rest = omega (arith, h) in
      let told = line_told (omega (arith, h)) g (next_put s l e at out put) in
      subst (λ (x : Listing). Telling n s from out₀ last x (at + line.count) rest) (sym f)
      (subst (λ (k : ℕ). Telling n s from out₀ last (next_line s l).after (at + k) rest) (sym (next_counts s l e))
      (subst (λ (k : ℕ). Telling n s from out₀ last (next_line s l).after (at + length (next_line s l).text) k) one told))

  -- no entry is left
  pub stops : l.going ≡ false → Telling n s from out₀ out l at 0
  stops g =
      let none = no_more_lines left s l g ∙ sym (no_more_lines 0 s l g) in
      record {
        text = t.text ∙ ap (λ (p : Piece). take at out ++ p.text) none;
        after = t.after ∙ ap (λ (p : Piece). p.after) none;
        room = omega (arith, t.room);
        behind = t.behind;
        length_kept = t.length_kept;
      }

  -- all are told
  pub ends : left ≡ 0 → (at ≡ length (lines n s from).text) × ((l ≡ (lines n s from).after) × (out ≡ written (lines n s from).text out₀))
  unfolding lines
  ends z =
      let none : lines left s l ≡ record { text = []; after = l } = ap (λ (k : ℕ). lines k s l) z in
      let text = t.text ∙ ap (λ (p : Piece). take at out ++ p.text) none ∙ append-nil (take at out) in
      let count : length (lines n s from).text ≡ at = ap length text ∙ length-take-le at out (omega (arith, t.room)) in
      let after = t.after ∙ ap (λ (p : Piece). p.after) none in (
        sym count,
        (
          sym after,
          sym (take-append-drop at out)
              ∙ ap₂ (λ (x y : List ℕ). x ++ y) (sym text) (t.behind ∙ ap (λ (k : ℕ). drop k out₀) (sym count))
              ∙ sym (written_fits (lines n s from).text out₀ (omega (arith, count, t.room, t.length_kept))),
        ),
      )
