-- As many digits as the number has.
use Rattle.std.proofs.Common.{arith, ap, ◌∙◌, sym, subst}
use Rattle.lent.specs.Puts.{Puts}
use Rattle.history.specs.Figures.{lowest}
use Rattle.history.proofs.Writing.{digits_low}
use Rattle.history.proofs.ByTwos.{last_of_ten, puts_lowest}
use Rattle.history.proofs.put.number.Goals as goal

pub returns-then-n-ge1000000000 : goal.returns-then-n-ge1000000000
unfolding lowest
returns-then-n-ge1000000000 c =
    puts_lowest 8 c.args.n (omega arith) (omega arith) (omega arith) (ap (last_of_ten 10) c.ten.ensures)
    c.bytes.ensures

pub returns-then-n-ge100000000 : goal.returns-then-n-ge100000000
unfolding lowest
returns-then-n-ge100000000 c =
    puts_lowest 7 c.args.n (omega arith) (omega arith) (omega arith) (ap (last_of_ten 9) c.ten.ensures)
    c.bytes-then-n-ge100000000.ensures

pub returns-then-n-ge10000000 : goal.returns-then-n-ge10000000
unfolding lowest
returns-then-n-ge10000000 c =
    puts_lowest 6 c.args.n (omega arith) (omega arith) (omega arith) (ap (last_of_ten 8) c.ten.ensures)
    c.bytes-then-n-ge10000000.ensures

pub returns-then-n-ge1000000 : goal.returns-then-n-ge1000000
unfolding lowest
returns-then-n-ge1000000 c =
    puts_lowest 5 c.args.n (omega arith) (omega arith) (omega arith) (ap (last_of_ten 7) c.ten.ensures)
    c.bytes-then-n-ge1000000.ensures

pub returns-then-n-ge100000 : goal.returns-then-n-ge100000
unfolding lowest
returns-then-n-ge100000 c =
    puts_lowest 4 c.args.n (omega arith) (omega arith) (omega arith) (ap (last_of_ten 6) c.ten.ensures)
    c.bytes-then-n-ge100000.ensures

pub returns-then-n-ge10000 : goal.returns-then-n-ge10000
unfolding lowest
returns-then-n-ge10000 c =
    puts_lowest 3 c.args.n (omega arith) (omega arith) (omega arith) (ap (last_of_ten 5) c.ten.ensures)
    c.bytes-then-n-ge10000.ensures

pub returns-then-n-ge1000 : goal.returns-then-n-ge1000
unfolding lowest
returns-then-n-ge1000 c =
    puts_lowest 2 c.args.n (omega arith) (omega arith) (omega arith) (ap (last_of_ten 4) c.ten.ensures)
    c.bytes-then-n-ge1000.ensures

pub returns-then-n-ge100 : goal.returns-then-n-ge100
unfolding lowest
returns-then-n-ge100 c =
    puts_lowest 1 c.args.n (omega arith) (omega arith) (omega arith) (ap (last_of_ten 3) c.ten.ensures)
    c.bytes-then-n-ge100.ensures

pub returns-then-n-ge10 : goal.returns-then-n-ge10
unfolding lowest
returns-then-n-ge10 c =
    puts_lowest 0 c.args.n (omega arith) (omega arith) (omega arith) (ap (last_of_ten 2) c.ten.ensures)
    c.bytes-then-n-ge10.ensures

pub returns-else-n-ge10 : goal.returns-else-n-ge10
unfolding lowest
returns-else-n-ge10 c =
    subst (Puts _ _) (ap (last_of_ten 1) c.ten.ensures ∙ sym (digits_low c.args.n (omega arith))) c.byte.ensures
