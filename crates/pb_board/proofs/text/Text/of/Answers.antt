use Rattle.std.proofs.Common.{rules, ◌≡◌, ◌-◌, ◌≤◌, ◌++◌, List, ℕ, length, take, drop, replicate, sym, ap, ◌∙◌, arith, length-append}
use Rattle.std.proofs.lemmas.List.{drop-replicate, length-replicate}
use Rattle.std.proofs.Math.Seq.{take-append_seam}
use Rattle.pb_board.specs.Padded.{padded, IsPadded}
use Rattle.pb_board.proofs.text.Text.of.Goals as goal

in_buffer : (room : ℕ) (text buffer : List ℕ) → length text ≤ room → buffer ≡ padded room text → IsPadded room buffer (length text)
in_buffer room text buffer fits is = record {
  fits = fits;
  size = omega (arith, ap length is, length-append text (replicate (room - length text) 0), length-replicate {A = ℕ} (room - length text) 0, fits);
  zeros = ap (padded room) (ap (take (length text)) is ∙ take-append_seam text (replicate (room - length text) 0)) ∙ sym is;
}

pub invariant_of-result : goal.invariant_of-result
invariant_of-result g c = (
  c.requires.small,
  in_buffer g.row.N c.args.bytes.now (c.copy_from_slice.new.self ++ drop (length c.args.bytes.now) (replicate {A = ℕ} g.row.N 0)) c.requires.fits (rw drop-replicate (search rules)),
)
