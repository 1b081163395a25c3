-- The words and marks of the grammar, in capitals.
use Rattle.std.specs.Prelude.{codes}
use Rattle.sql_text.specs.Symbols.{Symbol, word, mark}

abbrev pub ACCESS : Symbol
ACCESS = word (codes "access")

abbrev pub AND : Symbol
AND = word (codes "and")

abbrev pub AS : Symbol
AS = word (codes "as")

abbrev pub BETWEEN : Symbol
BETWEEN = word (codes "between")

abbrev pub BY : Symbol
BY = word (codes "by")

abbrev pub COUNT : Symbol
COUNT = word (codes "count")

abbrev pub CREATE : Symbol
CREATE = word (codes "create")

abbrev pub CROSS : Symbol
CROSS = word (codes "cross")

abbrev pub DELETE : Symbol
DELETE = word (codes "delete")

abbrev pub DISCOVER : Symbol
DISCOVER = word (codes "discover")

abbrev pub DISTINCT : Symbol
DISTINCT = word (codes "distinct")

abbrev pub DROP : Symbol
DROP = word (codes "drop")

abbrev pub EXCEPT : Symbol
EXCEPT = word (codes "except")

abbrev pub EXPLAIN : Symbol
EXPLAIN = word (codes "explain")

abbrev pub FETCH : Symbol
FETCH = word (codes "fetch")

abbrev pub FROM : Symbol
FROM = word (codes "from")

abbrev pub GROUP : Symbol
GROUP = word (codes "group")

abbrev pub INNER : Symbol
INNER = word (codes "inner")

abbrev pub INSERT : Symbol
INSERT = word (codes "insert")

abbrev pub INT : Symbol
INT = word (codes "int")

abbrev pub INTEGER : Symbol
INTEGER = word (codes "integer")

abbrev pub INTO : Symbol
INTO = word (codes "into")

abbrev pub JOIN : Symbol
JOIN = word (codes "join")

abbrev pub LIMIT : Symbol
LIMIT = word (codes "limit")

abbrev pub LOAD : Symbol
LOAD = word (codes "load")

abbrev pub MAX : Symbol
MAX = word (codes "max")

abbrev pub MIN : Symbol
MIN = word (codes "min")

abbrev pub OK : Symbol
OK = word (codes "ok")

abbrev pub ON : Symbol
ON = word (codes "on")

abbrev pub SCAN : Symbol
SCAN = word (codes "scan")

abbrev pub SELECT : Symbol
SELECT = word (codes "select")

abbrev pub SPECIALISE : Symbol
SPECIALISE = word (codes "specialise")

abbrev pub SUM : Symbol
SUM = word (codes "sum")

abbrev pub TABLE : Symbol
TABLE = word (codes "table")

abbrev pub TEXT : Symbol
TEXT = word (codes "text")

abbrev pub UNION : Symbol
UNION = word (codes "union")

abbrev pub VALUES : Symbol
VALUES = word (codes "values")

abbrev pub WHERE : Symbol
WHERE = word (codes "where")

abbrev pub OPEN : Symbol
OPEN = mark (codes "(")

abbrev pub CLOSE : Symbol
CLOSE = mark (codes ")")

abbrev pub COMMA : Symbol
COMMA = mark (codes ",")

abbrev pub DOT : Symbol
DOT = mark (codes ".")

abbrev pub STAR : Symbol
STAR = mark (codes "*")

abbrev pub PLUS : Symbol
PLUS = mark (codes "+")

abbrev pub MINUS : Symbol
MINUS = mark (codes "-")
