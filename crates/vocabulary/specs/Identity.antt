-- What contracts see of a value.

-- as it is
abbrev pub id : {X : Type 0} → X → X
id x = x
