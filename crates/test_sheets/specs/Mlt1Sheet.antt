-- The sheet of MLT-1, line by line.
use Rattle.std.specs.Prelude.{ℕ, List, ◌++◌, codes}

abbrev pub mlt1_sheet : List ℕ
mlt1_sheet =
    codes "(test mlt1\n"
    ++ (codes "(up (w 1))\n"
    ++ (codes "(up (w 0) (c 0 hit) (w 1))\n"
    ++ (codes "(up (r 1) (w 0))\n"
    ++ (codes "(columns (c 1 none))\n"
    ++ (codes "(down (w 1) (c 1 hit) (w 0))\n"
    ++ (codes "(down (r 0) (w 1))\n"
    ++ (codes "(columns (c 0 none))\n"
    ++ codes ")\n")))))))
