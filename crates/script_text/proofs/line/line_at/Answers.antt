-- `script_text::line::line_at` meets its contract: the first byte tells the form of the line.
use Rattle.std.proofs.Common.{◌≡◌, ◌<◌, ◌≤◌, length, get_or, refl, ◌∙◌, arith, rules}
use Rattle.std.proofs.lemmas.Bool.Decides.{nat_tests}
use Rattle.language.specs.Syntax.{first, second, pick}
use Rattle.script.specs.Lines.{l_skip, l_seq, l_assign, l_while, l_case, l_int, l_loc, l_var, l_plus, l_left, l_right}
use Rattle.script.specs.Lines.{l_pack, l_unpack, l_pair, l_proj}
use Rattle.script.specs.Internal.Code.{row_of}
use Rattle.script_text.specs.Reading.{bare, one, two, other, form_of}
use Rattle.script_text.proofs.FoundLaws.{line_none, line-kind, line_other}
use Rattle.script_text.proofs.line.line_at.Goals as goal

pub returns-in_err-get : goal.returns-in_err-get
returns-in_err-get c =
    let h : length c.args.s.now ≤ c.args.at = search rules in
    c.from_residual.ensures ∙ line_none _ _ h

pub returns-in-115 : goal.returns-in-115
unfolding form_of row_of
returns-in-115 c =
    let h : c.args.at < length c.args.s.now = search rules in
    let b : get_or c.args.s.now c.args.at 0 ≡ 115 = search rules in
    line-kind _ _ 115 (bare l_skip) _ h b refl (c.bare_line.ensures l_skip refl)

pub returns-in-59 : goal.returns-in-59
unfolding form_of row_of
returns-in-59 c =
    let h : c.args.at < length c.args.s.now = search rules in
    let b : get_or c.args.s.now c.args.at 0 ≡ 59 = search rules in
    line-kind _ _ 59 (bare l_seq) _ h b refl (c.bare_line-in-59.ensures l_seq refl)

pub returns-in-61 : goal.returns-in-61
unfolding form_of row_of
returns-in-61 c =
    let h : c.args.at < length c.args.s.now = search rules in
    let b : get_or c.args.s.now c.args.at 0 ≡ 61 = search rules in
    line-kind _ _ 61 (one l_assign) _ h b refl (c.one_operand.ensures l_assign (λ a. refl))

pub returns-in-119 : goal.returns-in-119
unfolding form_of row_of
returns-in-119 c =
    let h : c.args.at < length c.args.s.now = search rules in
    let b : get_or c.args.s.now c.args.at 0 ≡ 119 = search rules in
    line-kind _ _ 119 (bare l_while) _ h b refl (c.bare_line-in-119.ensures l_while refl)

pub returns-in-99 : goal.returns-in-99
unfolding form_of row_of
returns-in-99 c =
    let h : c.args.at < length c.args.s.now = search rules in
    let b : get_or c.args.s.now c.args.at 0 ≡ 99 = search rules in
    line-kind _ _ 99 (bare l_case) _ h b refl (c.bare_line-in-99.ensures l_case refl)

pub returns-in-105 : goal.returns-in-105
unfolding form_of row_of
returns-in-105 c =
    let h : c.args.at < length c.args.s.now = search rules in
    let b : get_or c.args.s.now c.args.at 0 ≡ 105 = search rules in
    line-kind _ _ 105 (one l_int) _ h b refl (c.one_operand-in-105.ensures l_int (λ a. refl))

pub returns-in-120 : goal.returns-in-120
unfolding form_of row_of
returns-in-120 c =
    let h : c.args.at < length c.args.s.now = search rules in
    let b : get_or c.args.s.now c.args.at 0 ≡ 120 = search rules in
    line-kind _ _ 120 (one l_loc) _ h b refl (c.one_operand-in-120.ensures l_loc (λ a. refl))

pub returns-in-118 : goal.returns-in-118
unfolding form_of row_of
returns-in-118 c =
    let h : c.args.at < length c.args.s.now = search rules in
    let b : get_or c.args.s.now c.args.at 0 ≡ 118 = search rules in
    line-kind _ _ 118 (one l_var) _ h b refl (c.one_operand-in-118.ensures l_var (λ a. refl))

pub returns-in-43 : goal.returns-in-43
unfolding form_of row_of
returns-in-43 c =
    let h : c.args.at < length c.args.s.now = search rules in
    let b : get_or c.args.s.now c.args.at 0 ≡ 43 = search rules in
    line-kind _ _ 43 (bare l_plus) _ h b refl (c.bare_line-in-43.ensures l_plus refl)

pub returns-in-108 : goal.returns-in-108
unfolding form_of row_of
returns-in-108 c =
    let h : c.args.at < length c.args.s.now = search rules in
    let b : get_or c.args.s.now c.args.at 0 ≡ 108 = search rules in
    line-kind _ _ 108 (one l_left) _ h b refl (c.one_operand-in-108.ensures l_left (λ a. refl))

pub returns-in-114 : goal.returns-in-114
unfolding form_of row_of
returns-in-114 c =
    let h : c.args.at < length c.args.s.now = search rules in
    let b : get_or c.args.s.now c.args.at 0 ≡ 114 = search rules in
    line-kind _ _ 114 (one l_right) _ h b refl (c.one_operand-in-114.ensures l_right (λ a. refl))

pub returns-in-107 : goal.returns-in-107
unfolding form_of row_of
returns-in-107 c =
    let h : c.args.at < length c.args.s.now = search rules in
    let b : get_or c.args.s.now c.args.at 0 ≡ 107 = search rules in
    line-kind _ _ 107 (one l_pack) _ h b refl (c.one_operand-in-107.ensures l_pack (λ a. refl))

pub returns-in-117 : goal.returns-in-117
unfolding form_of row_of
returns-in-117 c =
    let h : c.args.at < length c.args.s.now = search rules in
    let b : get_or c.args.s.now c.args.at 0 ≡ 117 = search rules in
    line-kind _ _ 117 (two l_unpack) _ h b refl (c.two_operands.ensures l_unpack (λ a b. refl))

pub returns-in-112 : goal.returns-in-112
unfolding form_of row_of
returns-in-112 c =
    let h : c.args.at < length c.args.s.now = search rules in
    let b : get_or c.args.s.now c.args.at 0 ≡ 112 = search rules in
    line-kind _ _ 112 (one l_pair) _ h b refl (c.one_operand-in-112.ensures l_pair (λ a. refl))

pub returns-in-102 : goal.returns-in-102
unfolding form_of row_of pick
returns-in-102 c =
    let h : c.args.at < length c.args.s.now = search rules in
    let b : get_or c.args.s.now c.args.at 0 ≡ 102 = search rules in
    line-kind _ _ 102 (bare (l_proj first)) _ h b refl (c.bare_line-in-102.ensures (l_proj first) refl)

pub returns-in-103 : goal.returns-in-103
unfolding form_of row_of pick
returns-in-103 c =
    let h : c.args.at < length c.args.s.now = search rules in
    let b : get_or c.args.s.now c.args.at 0 ≡ 103 = search rules in
    line-kind _ _ 103 (bare (l_proj second)) _ h b refl (c.bare_line-in-103.ensures (l_proj second) refl)

pub returns-in_default : goal.returns-in_default
unfolding form_of
returns-in_default c =
    let h : c.args.at < length c.args.s.now = search rules in
    let e : form_of (get_or c.args.s.now c.args.at 0) ≡ other = grind (arith, nat_tests) in
    line_other _ _ h e
