mod PointLines
