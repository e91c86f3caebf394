use Rattle.std.proofs.Common.{◌≡◌, ℕ, List, [], get_or, sym, ap, ◌∙◌, refl, arith}
use Rattle.stages.specs.Refusals.{answer_number}
use Rattle.stages.specs.Calls.{number_of}
use Rattle.stages.specs.Internal.Stages.{number_in}
use Rattle.stages.proofs.StageLaws.{accepted-verdict}
use Rattle.scripts.specs.Internal.Places.{script_texts_after}
use Rattle.scripts.proofs.Places.{TextAt, texts_all, first_starts, next_starts}
use Rattle.rounds.specs.Calls.{lower, lowest}
use Rattle.rounds.specs.Internal.Stages.{lowest_in}
use Rattle.rounds.proofs.LowerLaws.{lower_left, lower_right, lowest_over, lowest_on, lower-verdict}
use Rattle.rounds.proofs.LowerLaws.{lowest_in_first, lowest_in_on}
use Rattle.rounds.proofs.RunLaws.{script_at, over}
use Rattle.rounds.proofs.lowest_refusal.Goals as goal
use Rattle.rounds.proofs.lowest_refusal.Goals.{In-loop-end}

pub loop-end-init : goal.loop-end-init
loop-end-init c = record {
  starts = first_starts _;
  found = λ s T. lower_right 0 _ refl ∙ ap (lowest (number_of s)) (texts_all _);
  in_table = (0, accepted-verdict, lowest_in_first _ _ ∙ ap (lowest_in 0 _) (texts_all _));
}

-- the script that starts here
here : (c : In-loop-end)
    → TextAt c.args.scripts.now.text.now c.loop-end.at (get_or c.args.scripts.now.ends.now c.loop-end.end-index 0)
here c = script_at _ _ _ _ c.args.scripts.now.parted c.loop-end.invariant.starts _ c.loop-end-test.true refl

pub slice_bounds-check_on-count : goal.slice_bounds-check_on-count
slice_bounds-check_on-count c = omega (arith, (here (goal.at.slice_bounds-check_on-count c).In-loop-end).rises)

pub slice_bounds-check_on-start : goal.slice_bounds-check_on-start
slice_bounds-check_on-start c =
    let p = here (goal.at.slice_bounds-check_on-start c).In-loop-end in omega (arith, p.rises, p.inside)

pub slice_bounds-check_on-end : goal.slice_bounds-check_on-end
slice_bounds-check_on-end c =
    let p = here (goal.at.slice_bounds-check_on-end c).In-loop-end in omega (arith, p.rises, p.inside)

pub loop-end-preserved : goal.loop-end-preserved
loop-end-preserved c =
    let h = c.loop-end.invariant in
    let found = answer_number c.loop-end.found in
    let (v, of, is) = h.in_table in
    let (w, of-w, is-w) = c.check_on.ensures.in_table in
    let p = here (goal.at.loop-end-preserved c).In-loop-end in
    record {
      starts = next_starts h.starts p;
      found = λ s T.
          rw (c.lower-found.ensures, c.check_on.ensures.checked s T)
          (sym (lowest_on (number_of s) found _ _)
          ∙ ap (λ (ts : List (List ℕ)). lower found (lowest (number_of s) ts)) (sym p.texts)
          ∙ h.found s T);
      in_table = (
        lower v w,
        lower-verdict v w of of-w,
        rw (c.lower-found.ensures, is-w) (lowest_in_on _ found v w of-w _ _ _ _ p.texts is),
      );
    }

pub returns : goal.returns
returns c =
    let h = c.loop-end.invariant in
    let found = answer_number c.loop-end.found in
    let all : (number : List ℕ → ℕ)
    → found ≡ lower found (lowest number (script_texts_after _ c.loop-end.at)) =
    λ number. sym (lower_left found (lowest number []) (lowest_over number))
    ∙ ap (λ (ts : List (List ℕ)). lower found (lowest number ts))
    (sym (over _ _ _ _ c.args.scripts.now.parted h.starts
    (omega (arith, c.loop-end-test.false, c.loop-end.auto.end-index-end)))) in
    let (v, of, is) = h.in_table in
    record {
      numbered = λ s T. all (number_of s) ∙ h.found s T;
      in_table = (v, of, all (number_in 0 _) ∙ is);
    }
