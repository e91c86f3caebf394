-- `Evals`: a law for each kind of line.
use Rattle.std.proofs.Common.{◌≡◌, ℕ, ◌+◌, ◌-◌, ◌<◌, ◌≤◌, true, List, length, get_or, drop, sym, refl, ap, ◌∙◌, ⊎_elim}
use Rattle.std.proofs.Common.{arith, ltb-true}
use Rattle.language.specs.Syntax.{Value, int, inl, inr, pair, Part, first, second, pick, Expr}
use Rattle.language.specs.World.{Mem, cell_words}
use Rattle.language.specs.Evaluation.{Res, ok, long, stuck, bind, fit, add, packed, unpacked, part_of, eval}
use Rattle.logic.proofs.BooleanLaws.{both_left, both_right}
use Rattle.sheet.specs.Internal.Tables.{labels_in}
use Rattle.sheet.specs.Internal.Powers.{may_write}
use Rattle.script.specs.Lines.{ScriptLine, SourceE, expr_lines}
use Rattle.script.specs.Internal.Code.{row_at}
use Rattle.script.specs.Names.{Counts, named_e}
use Rattle.script.specs.declared.Row.{Row}
use Rattle.script.specs.Internal.Pieces.{expression}
use Rattle.script.proofs.Rows as rows
use Rattle.script.proofs.Rows.{ExprRow, at_int, at_loc, at_var, at_plus, at_left, at_right, at_pack, at_unpack, at_pair}
use Rattle.script.proofs.Rows.{at_first, at_second, KindOf, not_here, one_between}
use Rattle.memory.specs.Words.{cell}
use Rattle.memory.specs.Memory.{cell_of}
use Rattle.std.specs.Prelude.{Result, Ok, Err, IsErr}
use Rattle.std.specs.Result.{IsErrAnd}
use Rattle.std.proofs.lemmas.Result.{err_from_is_err_and}
use Rattle.evaluator.specs.State.{state_number}
use Rattle.evaluator.specs.declared.Stop.{Stop}
use Rattle.evaluator.specs.declared.Stop.TheVariants.{Spent, TooLong, NoRule}
use Rattle.cells.specs.Internal.Cells.{accumulator, load_of, store_of}
use Rattle.evaluator.specs.Internal.Cells.{first_location}
use Rattle.evaluator.specs.Internal.Records.{Setting, Place, Reached, reached, arrived, Context}
use Rattle.evaluator.specs.Internal.Nodes.{Yields, Gives, Turns, Applies, Sums, o_left, o_right, o_pack, o_unpack}
use Rattle.evaluator.specs.Internal.Nodes.{o_part, op_kind, Applied, Pairs}
use Rattle.evaluator.specs.Internal.Post.{ExprAt, StandsFor, Answers, Evals}
use Rattle.cells.proofs.CellLaws.{there, load_there, length_load, cell-stored, rest_kept}
use Rattle.evaluator.proofs.ValueLaws.{tags_left, tags_right}
use Rattle.evaluator.proofs.NodeLaws.{load_here, second_here, length-int}
use Rattle.evaluator.proofs.StateLaws.{cell_in, room_here, holds_kept, bound-answers}

-- the row that was read is that of the expression
pub row_of_lem : {p : Place} {row : Row} {k : Counts} {rest : List ScriptLine} {e : Expr} (kind : ℕ)
    → row ≡ row_at p.code p.at → row.kind ≡ kind
    → ExprAt p k rest e → ExprRow p.code p.at rest kind row.a row.b e
row_of_lem {p} {rest = rest} {e = e} kind r q x = rows.row_of_lem p.code p.at expression e rest r q x.source x.lines

-- another place of the same code, with these cells; the operand that follows a line; what follows an evaluation
abbrev pub moved : Place → ℕ → List ℕ → Place
moved p n cells = record { code = p.code; at = n; depth = p.depth; cells = cells }

abbrev pub operand : Place → Place
operand p = moved p (p.at + 3) p.cells

abbrev after : Place → Reached → Place
after p v = moved p v.next v.cells

-- what an evaluation promises of one expression
abbrev Means : Place → Context → Mem → Expr → List ScriptLine → Reached → Type 0
Means p C M e rest r = Answers (eval C.world C.env M e) p.code rest r

pub held_after : {S : Setting} {p q : Place} {C : Context} {M : Mem} → StandsFor S p C M
    → drop cell_words q.cells ≡ drop cell_words p.cells → q.depth ≡ p.depth
    → StandsFor S q C M
held_after {q = q} h e d =
    record { tells = h.tells; labels = h.labels; cells = rw d (holds_kept h.cells q.cells e) }

-- ---- the kinds, each matched at its number

module _ {S : Setting} (p : Place) {C : Context} {M : Mem} (held : StandsFor S p C M) {rest : List ScriptLine}
    (cells : List ℕ) where
  int_case : {a b : ℕ} {e : Expr} → ExprRow p.code p.at rest 6 a b e → cell_of cells accumulator ≡ cell (int a)
      → Means p C M e rest (reached (Ok (p.at + 3)) cells)
  unfolding eval Yields
  int_case (at_int h) w = ((refl, w), λ z. h)

  loc_case : {a b : ℕ} {e : Expr} → ExprRow p.code p.at rest 7 a b e → named_e C.counts p.depth e ≡ true
      → cell_of cells accumulator ≡ load_of p.cells (first_location + a)
      → Means p C M e rest (reached (Ok (p.at + 3)) cells)
  unfolding eval Yields named_e
  loc_case (at_loc {x = x} h) n w =
      let l : x < C.counts.locations = ltb-true _ _ n in (
        (
          refl,
          w ∙ load_there p.cells (9 + x) (cell_in held.cells (9 + x) (omega (arith, held.cells.few)))
              ∙ held.cells.memory x l,
        ),
        λ z. h,
      )

  var_case : {a b : ℕ} {e : Expr} → ExprRow p.code p.at rest 8 a b e
      → cell_of cells accumulator ≡ load_of p.cells (p.depth - a)
      → Means p C M e rest (reached (Ok (p.at + 3)) cells)
  unfolding eval
  var_case (at_var {d = d} h) w = (
    rw w (bound-answers held.cells.bindings held.cells.whole held.cells.shallow d),
    λ z. h,
  )

-- ---- what follows an evaluation

-- what stops is not done
pub stopped_in : (A : Type 0) (s : Stop) → state_number {A = A} (Err s) ≡ 0 → ⊥
stopped_in A Spent z = omega arith
stopped_in A TooLong z = omega arith
stopped_in A NoRule z = omega arith

pub stopped : (s : Stop) → state_number {A = ℕ} (Err s) ≡ 0 → ⊥
stopped = stopped_in ℕ

-- what `?` hands on is what stopped
pub passed_on : {A E : Type 0} (r : Result A E) (e : E) → IsErr r × IsErrAnd r (λ d. d ≡ e) → r ≡ Err e
passed_on r e h = let p = err_from_is_err_and r h.1 in p.1 ∙ ap Err p.2

-- f is applied to what an evaluation gives
abbrev pub Follows : (Value → Res) → Reached → Reached → Type 0
Follows f v r = (x : Res) → cell_words ≤ length v.cells → Gives x v → Gives (bind x f) r

-- only the accumulator changes after it, and a value's place is the same
pub record After (v r : Reached) : Type 0 where
  pub kept : drop cell_words r.cells ≡ drop cell_words v.cells
  pub through : r.state ≡ 0 → v.state ≡ 0
  pub same_place : r.state ≡ 0 → r.next ≡ v.next

-- nothing follows an evaluation that stops
pub stopped_after : {v : Reached} → After v v
stopped_after = record { kept = refl; through = λ z. z; same_place = λ z. refl }

pub follows_stopped : (f : Value → Res) (v : Reached) → (v.state ≡ 0 → ⊥) → Follows f v v
unfolding Yields bind
follows_stopped f v n (ok u) h a = absurd (n a.0)
follows_stopped f v n long h a = a
follows_stopped f v n stuck h a = tt

-- what a node makes of a value
pub made_after : {before after : List ℕ} {n state next : ℕ} {Q : Type 0} → Applies before after Q
    → (state ≡ 0 → next ≡ n)
    → After (reached (Ok n) before) (record { state = state; next = next; cells = after })
made_after y same = record { kept = y.kept; through = λ z. refl; same_place = same }

pub follows_made : (before after : List ℕ) (n state next : ℕ) (f : Value → Res) → Turns f before state after
    → Follows f (reached (Ok n) before) (record { state = state; next = next; cells = after })
unfolding Yields bind
follows_made before after n state next f t (ok u) h a = t u h a.1
follows_made before after n state next f t long h a = absurd (omega arith)
follows_made before after n state next f t stuck h a = tt

-- what follows a value in the accumulator
bind-answers : (v r : Reached) (x : Res) (f : Value → Res) → v.state ≡ 0 → Gives x v
    → ((u : Value) → cell_of v.cells accumulator ≡ cell u → Gives (f u) r) → Gives (bind x f) r
unfolding Yields bind
bind-answers v r (ok u) f z a k = k u a.1
bind-answers v r long f z a k = absurd (omega arith)
bind-answers v r stuck f z a k = tt

-- an operand that stands after its line
module _ {S : Setting} (p : Place) {v : Reached} (x : Evals S (operand p) v) {C : Context} {M : Mem}
    (held : StandsFor S p C M) where
  operand-held : StandsFor S (operand p) C M
  operand-held = held_after held refl refl

  room_after : cell_words ≤ length v.cells
  room_after = room_here (holds_kept held.cells v.cells x.kept)

  one_operand : {e : Expr} {rest : List ScriptLine} {r : Reached} (f : Value → Res)
      → ExprAt (operand p) C.counts rest e → After v r → Follows f v r
      → Answers (bind (eval C.world C.env M e) f) p.code rest r
  one_operand {e} {rest} f here y u =
      let m = x.means C M e rest operand-held here in
      (u _ room_after m.0, λ z. ap (λ (n : ℕ). drop n p.code) (y.same_place z) ∙ m.1 (y.through z))

  module _ {rest : List ScriptLine} {r : Reached} (y : After v r) where
    left_case : {a b : ℕ} {e : Expr} → ExprRow p.code p.at rest 10 a b e → named_e C.counts p.depth e ≡ true
        → Follows (λ u. fit (inl u)) v r → Means p C M e rest r
    unfolding eval named_e
    left_case (at_left s h) n u =
        one_operand (λ w. fit (inl w)) (record { source = s; names = both_right _ _ n; lines = h }) y u

    right_case : {a b : ℕ} {e : Expr} → ExprRow p.code p.at rest 11 a b e → named_e C.counts p.depth e ≡ true
        → Follows (λ u. fit (inr u)) v r → Means p C M e rest r
    unfolding eval named_e
    right_case (at_right s h) n u =
        one_operand (λ w. fit (inr w)) (record { source = s; names = both_right _ _ n; lines = h }) y u

    pack_case : {a b : ℕ} {e : Expr} → ExprRow p.code p.at rest 12 a b e → named_e C.counts p.depth e ≡ true
        → Follows (packed (may_write S.powers a) a) v r → Means p C M e rest r
    unfolding eval named_e
    pack_case (at_pack {l = l} s h) n u =
        let there : l < labels_in S.table = rw (sym held.labels) (ltb-true _ _ (both_left _ _ n)) in
        one_operand (packed (C.world.writes l) l) (record { source = s; names = both_right _ _ n; lines = h }) y
        (rw (held.tells.writes_is l there) at u)

    unpack_case : {a b : ℕ} {e : Expr} → ExprRow p.code p.at rest 13 a b e
        → named_e C.counts p.depth e ≡ true
        → (b < labels_in S.table → Follows (unpacked C.world a b) v r) → Means p C M e rest r
    unfolding eval named_e
    unpack_case (at_unpack {t = t} {l = l} s h) n u =
        let there : l < labels_in S.table =
        rw (sym held.labels) (ltb-true _ _ (both_right _ _ (both_left _ _ n))) in
        one_operand (unpacked C.world t l) (record { source = s; names = both_right _ _ n; lines = h }) y (u there)

    part_case : (q : Part) {a b : ℕ} {e : Expr} → ExprRow p.code p.at rest (pick q 15 16) a b e
        → named_e C.counts p.depth e ≡ true
        → Follows (part_of q) v r → Means p C M e rest r
    unfolding eval named_e pick
    part_case first (at_first s h) n u = one_operand (part_of first) (record { source = s; names = n; lines = h }) y u
    part_case second (at_second s h) n u =
        one_operand (part_of second) (record { source = s; names = n; lines = h }) y u

  module _ (rest : List ScriptLine) {e : Expr} (f : Expr)
      (here : ExprAt (operand p) C.counts (expr_lines f rest) e) where
    -- two operands, the first of which has no value
    two_end : (k : Value → Res) → (v.state ≡ 0 → ⊥) → Answers (bind (eval C.world C.env M e) k) p.code rest v
    two_end k z =
        (follows_stopped k v z _ room_after (x.means C M e (expr_lines f rest) operand-held here).0, λ q. absurd (z q))

    -- two operands, the first of which has one
    two_operands : {w r : Reached} (k : Value → Value → Res) → SourceE f
        → named_e C.counts p.depth f ≡ true → v.state ≡ 0
        → Evals S (after p v) w → After w r
        → ((u : Value) → cell_of v.cells accumulator ≡ cell u → Follows (k u) w r)
        → Answers (bind (eval C.world C.env M e) (λ a. bind (eval C.world C.env M f) (λ b. k a b)))
        p.code rest r
    two_operands {w} {r} k source names z x' y follows =
        let m = x.means C M e (expr_lines f rest) operand-held here in
        let held' : StandsFor S (after p v) C M = held_after held x.kept refl in
        let m' = x'.means C M f rest held' (record { source = source; names = names; lines = m.1 z }) in
        let room = room_here (holds_kept held'.cells w.cells x'.kept) in (
          bind-answers v r _ _ z m.0 (λ u a. follows u a _ room m'.0),
          λ q. ap (λ (i : ℕ). drop i p.code) (y.same_place q) ∙ m'.1 (y.through q),
        )

  module _ {rest : List ScriptLine} where
    plus_end_case : {a b : ℕ} {e : Expr} → ExprRow p.code p.at rest 9 a b e
        → named_e C.counts p.depth e ≡ true → (v.state ≡ 0 → ⊥)
        → Means p C M e rest v
    unfolding eval named_e
    plus_end_case (at_plus {f = f} s r h) n z =
        two_end rest f (record { source = s; names = both_left _ _ n; lines = h }) _ z

    plus_case : {a b n : ℕ} {e : Expr} {w r : Reached} → ExprRow p.code p.at rest 9 a b e
        → named_e C.counts p.depth e ≡ true → v.state ≡ 0
        → n ≡ get_or v.cells 1 0 → Evals S (after p v) w → After w r
        → ((u : Value) → n ≡ get_or (cell u) 1 0 → Follows (add u) w r) → Means p C M e rest r
    unfolding eval named_e
    plus_case (at_plus {f = f} s s' h) nm z n x' y follows =
        two_operands rest f (record { source = s; names = both_left _ _ nm; lines = h }) add s'
        (both_right _ _ nm) z x' y
        (λ u a. follows u (n ∙ second_here v.cells u a))

    pair_end_case : {a b : ℕ} {e : Expr} → ExprRow p.code p.at rest 14 a b e
        → named_e C.counts p.depth e ≡ true → (v.state ≡ 0 → ⊥)
        → Means p C M e rest v
    unfolding eval named_e
    pair_end_case (at_pair {f = f} s r h) n z =
        two_end rest f (record { source = s; names = both_left _ _ (both_right _ _ n); lines = h }) _ z

    pair_case : {a b : ℕ} {words : List ℕ} {e : Expr} {w r : Reached} → ExprRow p.code p.at rest 14 a b e
        → named_e C.counts p.depth e ≡ true
        → v.state ≡ 0 → words ≡ load_of v.cells accumulator → Evals S (after p v) w → After w r
        → ((u : Value) → words ≡ cell u → Follows (λ b. fit (pair u b)) w r)
        → Means p C M e rest r
    unfolding eval named_e
    pair_case (at_pair {f = f} s s' h) nm z ld x' y follows =
        let n = both_right _ _ nm in
        two_operands rest f (record { source = s; names = both_left _ _ n; lines = h }) (λ u w. fit (pair u w)) s'
        (both_right _ _ n) z x' y
        (λ u a. follows u (ld ∙ load_here v.cells u room_after a))

-- a cell is copied to the accumulator
copied : (work : List ℕ) {work' : List ℕ} (j : ℕ) → work' ≡ store_of work accumulator (load_of work j)
    → drop cell_words work' ≡ drop cell_words work
copied work j e = ap (drop 16) e ∙ rest_kept work (load_of work j) (length_load work j)

copy_here : (work : List ℕ) {work' : List ℕ} (j : ℕ) → cell_words ≤ length work
    → work' ≡ store_of work accumulator (load_of work j) → cell_of work' accumulator ≡ load_of work j
copy_here work j h e = ap (λ (u : List ℕ). cell_of u 0) e
    ∙ cell-stored work 0 (load_of work j) (length_load work j) (there work 0 (omega arith))

-- what stops has no place
placeless : {S : Setting} {p : Place} {r : Reached} (n : ℕ) → Evals S p r → (r.state ≡ 0 → ⊥)
    → Evals S p (record { state = r.state; next = n; cells = r.cells })
placeless n x z = record {
  forward = λ q. absurd (z q);
  kept = x.kept;
  means = λ C M e rest held here. ((x.means C M e rest held here).0, λ q. absurd (z q));
}

pub handed_back : {S : Setting} {p : Place} {next : ℕ} {cells : List ℕ} (s : Stop)
    → Evals S p (arrived (Err s) next cells) → Evals S p (reached (Err s) cells)
handed_back Spent x = placeless 0 x (λ z. omega arith)
handed_back TooLong x = placeless 0 x (λ z. omega arith)
handed_back NoRule x = placeless 0 x (λ z. omega arith)

-- ---- a law for each arm of the code

module _ {S : Setting} {p : Place} {row : Row} (r : row ≡ row_at p.code p.at) where
  module _ {cells : List ℕ} where
    pub eval-int : row.kind ≡ 6 → cells ≡ store_of p.cells accumulator (cell (int row.a))
        → Evals S p (reached (Ok (p.at + 3)) cells)
    eval-int q e =
        record {
          forward = λ z. omega arith;
          kept = ap (drop 16) e ∙ rest_kept p.cells (cell (int row.a)) (length-int row.a);
          means = λ C M x rest held here. int_case p held cells (row_of_lem 6 r q here)
              (ap (λ (u : List ℕ). cell_of u 0) e ∙ cell-stored p.cells 0 (cell (int row.a)) (length-int row.a)
              (cell_in held.cells 0 (omega arith)));
        }

    pub eval-loc : row.kind ≡ 7 → cells ≡ store_of p.cells accumulator (load_of p.cells (first_location + row.a))
        → Evals S p (reached (Ok (p.at + 3)) cells)
    eval-loc q e =
        record {
          forward = λ z. omega arith;
          kept = copied p.cells (9 + row.a) e;
          means = λ C M x rest held here. loc_case p held cells (row_of_lem 7 r q here) here.names
              (copy_here p.cells (9 + row.a) (room_here held.cells) e);
        }

    pub eval-var : row.kind ≡ 8 → cells ≡ store_of p.cells accumulator (load_of p.cells (p.depth - row.a))
        → Evals S p (reached (Ok (p.at + 3)) cells)
    eval-var q e =
        record {
          forward = λ z. omega arith;
          kept = copied p.cells (p.depth - row.a) e;
          means = λ C M x rest held here. var_case p held cells (row_of_lem 8 r q here)
              (copy_here p.cells (p.depth - row.a) (room_here held.cells) e);
        }

  -- ---- an operand that stops

  module _ {v : Reached} (x : Evals S (operand p) v) (z : v.state ≡ 0 → ⊥) where
    eval_end : ((C : Context) (M : Mem) (e : Expr) (rest : List ScriptLine) → StandsFor S p C M
        → ExprAt p C.counts rest e → Means p C M e rest v) → Evals S p v
    eval_end m = record { forward = λ q. absurd (z q); kept = x.kept; means = m }

    pub eval-pair_end : row.kind ≡ 14 → Evals S p v
    eval-pair_end q =
        eval_end (λ C M e rest held here. pair_end_case p x held (row_of_lem 14 r q here) here.names z)

    end_at : (q : Part) → row.kind ≡ pick q 15 16 → Evals S p v
    end_at q k = eval_end (λ C M e rest held here.
        part_case p x held stopped_after q (row_of_lem _ r k here) here.names (follows_stopped _ v z))

    -- the other kinds
    pub eval-end : 9 ≤ row.kind → row.kind ≤ 16 → (row.kind ≡ 14 → ⊥) → Evals S p v
    unfolding pick
    eval-end h l m =
        ⊎_elim (λ q. eval_end (λ C M e rest held here.
        plus_end_case p x held (row_of_lem 9 r q here) here.names z))
        (⊎_elim (λ q. eval_end (λ C M e rest held here.
        left_case p x held stopped_after (row_of_lem 10 r q here) here.names (follows_stopped _ v z)))
        (⊎_elim (λ q. eval_end (λ C M e rest held here.
        right_case p x held stopped_after (row_of_lem 11 r q here) here.names (follows_stopped _ v z)))
        (⊎_elim (λ q. eval_end (λ C M e rest held here.
        pack_case p x held stopped_after (row_of_lem 12 r q here) here.names (follows_stopped _ v z)))
        (⊎_elim (λ q. eval_end (λ C M e rest held here.
        unpack_case p x held stopped_after (row_of_lem 13 r q here) here.names (λ t. follows_stopped _ v z)))
        (⊎_elim (λ q. absurd (m q))
        (⊎_elim (λ q. end_at first q) (λ q. end_at second q)))))))
        (one_between 9 7 h l)

  -- ---- two operands

  module _ {v : Reached} (x : Evals S (operand p) v) (z : v.state ≡ 0) {w : Reached} (x' : Evals S (after p v) w)
      {u : Reached} (y : After w u) where
    eval_two : ((C : Context) (M : Mem) (e : Expr) (rest : List ScriptLine)
        → StandsFor S p C M → ExprAt p C.counts rest e → Means p C M e rest u) → Evals S p u
    eval_two m =
        record {
          forward = λ q. omega (arith, x.forward z, x'.forward (y.through q), y.same_place q);
          kept = y.kept ∙ x'.kept ∙ x.kept;
          means = m;
        }

    eval-plus : {n : ℕ} → row.kind ≡ 9 → n ≡ get_or v.cells 1 0
        → ((i : Value) → n ≡ get_or (cell i) 1 0 → Follows (add i) w u) → Evals S p u
    eval-plus q n follows =
        eval_two (λ C M e rest held here. plus_case p x held (row_of_lem 9 r q here) here.names z n x' y follows)

    eval-pair : {words : List ℕ} → row.kind ≡ 14 → words ≡ load_of v.cells accumulator
        → ((i : Value) → words ≡ cell i → Follows (λ b. fit (pair i b)) w u) → Evals S p u
    eval-pair q ld follows =
        eval_two (λ C M e rest held here. pair_case p x held (row_of_lem 14 r q here) here.names z ld x' y follows)

  module _ {v : Reached} (x : Evals S (operand p) v) (z : v.state ≡ 0) where
    -- the second of which stops
    module _ {w : Reached} (x' : Evals S (after p v) w) (stops : w.state ≡ 0 → ⊥) where
      pub eval-plus_stop : {n : ℕ} → row.kind ≡ 9 → n ≡ get_or v.cells 1 0 → Evals S p w
      eval-plus_stop q n = eval-plus x z x' stopped_after q n (λ i e. follows_stopped (add i) w stops)

      pub eval-pair_stop : {words : List ℕ} → row.kind ≡ 14 → words ≡ load_of v.cells accumulator → Evals S p w
      eval-pair_stop q ld =
          eval-pair x z x' stopped_after q ld (λ i e. follows_stopped (λ b. fit (pair i b)) w stops)

    -- both of which have a value
    module _ {m : ℕ} {before : List ℕ} (x' : Evals S (after p v) (reached (Ok m) before)) {state next : ℕ}
        {after : List ℕ} (same : state ≡ 0 → next ≡ m) where
      pub eval-plus_made : {n : ℕ} → row.kind ≡ 9 → n ≡ get_or v.cells 1 0 → Sums n before state after
          → Evals S p (record { state = state; next = next; cells = after })
      eval-plus_made q n y =
          eval-plus x z x' (made_after y same) q n
          (λ i e. follows_made before after m state next (add i) (y.means i e))

      pub eval-pair_made : {words : List ℕ} → row.kind ≡ 14 → words ≡ load_of v.cells accumulator
          → Pairs words before state after → Evals S p (record { state = state; next = next; cells = after })
      eval-pair_made q ld y =
          eval-pair x z x' (made_after y same) q ld
          (λ i e. follows_made before after m state next (λ b. fit (pair i b)) (y.means i e))

  -- ---- one operand

  module _ {n : ℕ} {before : List ℕ} (x : Evals S (operand p) (reached (Ok n) before)) {state next : ℕ}
      {after : List ℕ} (same : state ≡ 0 → next ≡ n) where
    eval-by : {Q : Type 0} → Applies before after Q
        → ((C : Context) (M : Mem) (e : Expr) (rest : List ScriptLine) → StandsFor S p C M
        → ExprAt p C.counts rest e
        → Means p C M e rest (record { state = state; next = next; cells = after }))
        → Evals S p (record { state = state; next = next; cells = after })
    eval-by y m = record {
      forward = λ z. omega (arith, x.forward refl, same z);
      kept = y.kept ∙ x.kept;
      means = m;
    }

    -- the kinds with one operand
    eval-at : (q : Part) → row.kind ≡ pick q 15 16 → Applied S row before state after
        → Evals S p (record { state = state; next = next; cells = after })
    unfolding op_kind
    eval-at q k y = eval-by (y (o_part q) k) (λ C M e rest held here.
        part_case p x held (made_after (y (o_part q) k) same) q (row_of_lem _ r k here) here.names
        (follows_made before after n state next _ (y (o_part q) k).means))

    pub eval-one : 9 ≤ row.kind → row.kind ≤ 16 → (row.kind ≡ 9 → ⊥) → (row.kind ≡ 14 → ⊥)
        → Applied S row before state after → Evals S p (record { state = state; next = next; cells = after })
    unfolding op_kind pick
    eval-one h l f m y =
        ⊎_elim (λ q. eval-by (y o_left q) (λ C M e rest held here.
        left_case p x held (made_after (y o_left q) same) (row_of_lem 10 r q here) here.names
        (follows_made before after n state next _ ((y o_left q).means inl tags_left))))
        (⊎_elim (λ q. eval-by (y o_right q) (λ C M e rest held here.
        right_case p x held (made_after (y o_right q) same) (row_of_lem 11 r q here) here.names
        (follows_made before after n state next _ ((y o_right q).means inr tags_right))))
        (⊎_elim (λ q. eval-by (y o_pack q) (λ C M e rest held here.
        pack_case p x held (made_after (y o_pack q) same) (row_of_lem 12 r q here) here.names
        (follows_made before after n state next _ (y o_pack q).means)))
        (⊎_elim (λ q. eval-by (y o_unpack q) (λ C M e rest held here.
        unpack_case p x held (made_after (y o_unpack q) same) (row_of_lem 13 r q here) here.names
        (λ t. follows_made before after n state next _ ((y o_unpack q).means C.world held.tells t))))
        (⊎_elim (λ q. absurd (m q))
        (⊎_elim (λ q. eval-at first q y) (λ q. eval-at second q y))))))
        (one_between 10 6 (omega arith) l)

  pub eval_none : (KindOf expression row.kind → ⊥) → {next : ℕ}
      → Evals S p (record { state = state_number {A = Unit {0}} (Err NoRule); next = next; cells = p.cells })
  eval_none f =
      record {
        forward = λ z. absurd (stopped_in (Unit {0}) NoRule z);
        kept = refl;
        means = λ C M e rest held here.
            absurd (not_here expression e rest p.code p.at r f here.source here.lines);
      }
