use Rattle.diagram.proofs.table.Table.+first_in_use.Given as goal

abbrev pub decreases-first_in_use : goal.decreases-first_in_use
decreases-first_in_use g l = l.h
