-- The bytes that came are fed, and none where the read failed or met the end.
use Rattle.std.proofs.Common.{◌≡◌, ℕ, List, Option, Some, None, length, min, take, refl, arith}
use lib.Dec.{ltb}
use Rattle.std.proofs.lemmas.Grind.{common_steps}
use Rattle.std.specs.Option.{unwrap_or}
use Rattle.input.specs.Input.{got_bytes, goes_on}
use Rattle.input.proofs.feed_got.Goals as goal

taken : (got : Option ℕ) (chunk : List ℕ) (n : ℕ) → n ≡ min (unwrap_or got 0) (length chunk)
    → take n chunk ≡ got_bytes got chunk
unfolding got_bytes
taken None chunk n e = grind (arith, common_steps)
taken (Some m) chunk n e = grind (arith, common_steps)

more_come : (got : Option ℕ) → ltb 0 (unwrap_or got 0) ≡ goes_on got
unfolding goes_on
more_come None = refl
more_come (Some n) = refl

pub returns : goal.returns
returns c =
    let a = c.args in
    let n = c.unwrap_or-n.ensures in
    let t = taken a.got a.chunk.now c.min.result (rw n at c.min.ensures) in
    record {
      more = rw n (more_come a.got);
      state_after = rw (← t) c.feed.ensures.value;
      buffer_after = rw (← t) c.feed.ensures.buffer_after;
    }
