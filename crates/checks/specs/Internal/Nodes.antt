-- What checking one line gives, from what checking its operands gave.
use Rattle.std.specs.Prelude.{Bool, true, false, List, ℕ, eqb}
use Rattle.sets.specs.Sets.{union}
use Rattle.logic.specs.Booleans.{both}
use Rattle.sheet.specs.Internal.Tables.{left_in, right_in, type_in, home_in}
use Rattle.checks.specs.declared.Holds.{Holds}
use Rattle.checks.specs.declared.Typed.{Typed}
use Rattle.checks.specs.declared.Passed.{Passed}
use Rattle.sheet.specs.Internal.TypeTest.{is_sum, is_pair}
use Rattle.members.specs.Internal.Members.{label_member, integrity_member, whole_flows, confidentiality_flows}

-- what holds of lines where nothing is asked, and where a label condition alone is
abbrev pub all_held : Holds
all_held = record { flow = true; keeping = true }

abbrev pub flow_held : Bool → Holds
flow_held flow = record { flow = flow; keeping = true }

-- what holds of the lines of both
abbrev pub both_held : Holds → Holds → Holds
both_held x y = record { flow = both x.flow y.flow; keeping = both x.keeping y.keeping }

-- the expression has the type number n
abbrev pub is_type : Typed → ℕ → Bool
is_type x n = both x.typed (eqb n x.ty)

-- an expression of type n and label a, in which nothing is to be tested
abbrev pub plain_typed : ℕ → ℕ → ℕ → Typed
plain_typed n a next = record { ty = n; typed = true; holds = all_held; label = a; next = next }

-- no expression
abbrev pub nothing : ℕ → Typed
nothing next = record { ty = 0; typed = false; holds = all_held; label = 0; next = next }

abbrev pub int_typed : ℕ → Typed
int_typed next = plain_typed 0 0 next

abbrev pub loc_typed : List ℕ → ℕ → ℕ → Typed
loc_typed t x next = plain_typed (type_in t x) (label_member (home_in t x)) next

-- two operands: of type n, if the test passes
abbrev pub two_typed : Bool → ℕ → Typed → Typed → Typed
two_typed typed n x y =
    record {
      ty = n;
      typed = typed;
      holds = both_held x.holds y.holds;
      label = union x.label y.label;
      next = y.next;
    }

abbrev pub plus_typed : Typed → Typed → Typed
plus_typed x y = two_typed (both (is_type x 0) (is_type y 0)) 0 x y

-- a pair of type n
abbrev pub pair_typed : List ℕ → ℕ → Typed → Typed → Typed
pair_typed t n x y =
    two_typed (both (is_pair t n) (both (is_type x (left_in t n)) (is_type y (right_in t n)))) n x y

-- a sum of type n, whose part on the operand's side is type m
abbrev pub sum_typed : List ℕ → ℕ → ℕ → Typed → Typed
sum_typed t n m x =
    record {
      ty = n;
      typed = both (is_sum t n) (is_type x m);
      holds = x.holds;
      label = x.label;
      next = x.next;
    }

-- a part of a pair: the part is type m
abbrev pub part_typed : List ℕ → ℕ → Typed → Typed
part_typed t m x =
    record {
      ty = m;
      typed = both x.typed (is_pair t x.ty);
      holds = x.holds;
      label = x.label;
      next = x.next;
    }

abbrev pub pack_typed : List ℕ → ℕ → Typed → Typed
pack_typed t l x =
    record {
      ty = 4;
      typed = x.typed;
      holds = both_held x.holds (flow_held (whole_flows t x.label l));
      label = integrity_member l;
      next = x.next;
    }

abbrev pub unpack_typed : List ℕ → ℕ → ℕ → Typed → Typed
unpack_typed t n l x =
    record {
      ty = n;
      typed = both (is_type x 2) (both (is_sum t n) (eqb (right_in t n) 1));
      holds = both_held x.holds
          (record { flow = confidentiality_flows t x.label l; keeping = whole_flows t x.label l });
      label = label_member l;
      next = x.next;
    }

-- a command in which nothing is to be tested
abbrev pub plain_passed : Bool → ℕ → Passed
plain_passed typed next = record { typed = typed; holds = all_held; next = next }

-- no command
abbrev pub refused : ℕ → Passed
refused next = plain_passed false next

abbrev pub skip_passed : ℕ → Passed
skip_passed next = plain_passed true next

abbrev pub seq_passed : Passed → Passed → Passed
seq_passed x y =
    record {
      typed = both x.typed y.typed;
      holds = both_held x.holds y.holds;
      next = y.next;
    }

-- an assignment of x to location n below the surrounding label pc: both labels are at or below the location's
abbrev pub assign_passed : List ℕ → ℕ → ℕ → Typed → Passed
assign_passed t n pc x =
    record {
      typed = is_type x (type_in t n);
      holds = both_held x.holds (flow_held (whole_flows t (union x.label pc) (home_in t n)));
      next = x.next;
    }

abbrev pub while_passed : Typed → Passed → Passed
while_passed x y =
    record {
      typed = both (is_type x 3) y.typed;
      holds = both_held x.holds y.holds;
      next = y.next;
    }

abbrev pub case_passed : List ℕ → Typed → Passed → Passed → Passed
case_passed t x y z =
    record {
      typed = both x.typed (both (is_sum t x.ty) (both y.typed z.typed));
      holds = both_held x.holds (both_held y.holds z.holds);
      next = z.next;
    }
