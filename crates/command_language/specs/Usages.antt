-- How commands are written. Our rule, docs/COMMANDS.md.
use Rattle.std.specs.Prelude.{ℕ, List, [], ◌∷◌, if◌then◌else◌, codes, bytes_eq}

-- what is said of a bad line whose first word is this, the name of no question
abbrev pub question_usage : List ℕ → List ℕ
question_usage name =
    if bytes_eq name (codes "get") then codes "usage: get LAYER ID"
    else if bytes_eq name (codes "count") then codes "usage: count LAYER"
    else if bytes_eq name (codes "window") then codes "usage: window LAYER BOX [tag N]"
    else if bytes_eq name (codes "inside") then codes "usage: inside LAYER BOX [tag N]"
    else if bytes_eq name (codes "around") then codes "usage: around LAYER BOX [tag N]"
    else if bytes_eq name (codes "point") then codes "usage: point LAYER POINT [tag N]"
    else if bytes_eq name (codes "nearest") then codes "usage: nearest LAYER N POINT"
    else if bytes_eq name (codes "join") then codes "usage: join LAYER LAYER [N]"
    else if bytes_eq name (codes "layers") then codes "usage: layers"
    else if bytes_eq name (codes "dump") then codes "usage: dump"
    else if bytes_eq name (codes "check") then codes "usage: check"
    else codes "no command begins so"

-- What is said of a bad line whose first word is this: how the command of that name is written, if there is one.
abbrev pub usage_of : List ℕ → List ℕ
usage_of name =
    if bytes_eq name (codes "create") then codes "usage: create LAYER AXES FANOUT"
    else if bytes_eq name (codes "insert") then codes "usage: insert LAYER ID BOX [tag N]"
    else if bytes_eq name (codes "load") then codes "usage: load LAYER N, and N lines ID BOX [tag N]"
    else if bytes_eq name (codes "move") then codes "usage: move LAYER ID BOX"
    else if bytes_eq name (codes "delete") then codes "usage: delete LAYER ID"
    else if bytes_eq name (codes "drop") then codes "usage: drop LAYER"
    else if bytes_eq name (codes "reopen") then codes "usage: reopen"
    else question_usage name

-- the same of the words of a line
abbrev pub usage_in : List (List ℕ) → List ℕ
usage_in [] = codes "no command begins so"
usage_in (name ∷ ws) = usage_of name
